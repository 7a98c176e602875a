-- A parcel that reaches a display is a file of demand 3, or nothing. Assumes nothing.
use mathlib.Core.Path.{◌≡◌, refl, sym, ap, subst, ◌∙◌}
use mathlib.Core.Bool.{true, false}
use mathlib.Core.Logic.{◌⊎◌, inl, ⊎_elim}
use mathlib.Core.Option.{some}
use mathlib.Core.List.{List, [], ◌∷◌, ◌++◌}
use Prim.Native.Nat.{ℕ, suc, ◌+◌, ◌-◌, ◌≤◌}
use native.Mathlib.Omega.{arith}
use Rattle.base.specs.Lists.{Each}
use Rattle.fields.proofs.ByteLaws.{bytes_drop}
use Rattle.rules.specs.Written.{Dataset, written_bytes}
use Rattle.rules.specs.Answers.{refusal, output_of}
use Rattle.sequence.proofs.Tests.{by_bool}
use Rattle.displays.specs.Display.{Handed, taken, after, shown, number_shown}
use Rattle.displays.specs.Publisher.{Publisher, start, first, Genuine, Cable, in_order}
use Rattle.displays.specs.Demand.{chart, HasRoom}
use Rattle.demand.proofs.Trip.{demand_three}
use Rattle.parcels.specs.Parcel.{body_of, carries_file}
use Rattle.parcels.specs.Taking.{taking, Reached, after_parcel, shown_by}
use Rattle.parcels.specs.Exchange.{GenuineParcel, Brought, Fits}

-- the file in a parcel, as it is handed to the display
unfoldable pub handed : Reached → Handed
unfolding body_of
handed t = record { file = body_of t.parcel; is_bytes = bytes_drop t.parcel 6 t.is_bytes; room = t.room; work = t.work }

module _ (c : List ℕ) (t : Reached) where
  pub taken_right : carries_file t.parcel ≡ true → after_parcel c t ≡ after c (handed t)
  unfolding after_parcel taking after handed
  taken_right e = rw e refl

  pub taken_wrong : carries_file t.parcel ≡ false → after_parcel c t ≡ c
  unfolding after_parcel taking taken output_of refusal
  taken_wrong e = rw e refl

-- ---- the charts of a publisher's displays

-- one more file at the end
shown_last : (c : List ℕ) (hs : List Handed) (h : Handed) → shown c (hs ++ (h ∷ [])) ≡ after (shown c hs) h
unfolding shown
shown_last c [] h = refl
shown_last c (g ∷ hs) h = shown_last (after c g) hs h

module _ (P : Publisher) where
  cable_last : (hs : List Handed) (h : Handed) → Cable P hs → Genuine P h.file → Cable P (hs ++ (h ∷ []))
  unfolding Cable
  cable_last [] h t g = (g, tt)
  cable_last (k ∷ hs) h t g = (t.0, cable_last hs h t.1 g)

  -- c is the chart of a display after files of the cable
  pub record Charted (c : List ℕ) : Type 0 where
    pub files : List Handed
    pub genuine : Cable P files
    pub is : c ≡ chart P files

  pub charted_start : Charted (start P)
  unfolding Cable shown
  charted_start = record { files = []; genuine = tt; is = refl }

  -- so it is after a parcel
  pub charted_after : (c : List ℕ) (t : Reached) → Charted c → GenuineParcel P t.parcel → Charted (after_parcel c t)
  unfolding GenuineParcel handed
  charted_after c t q g =
      by_bool (carries_file t.parcel)
      (λ e. record {
        files = q.files ++ (handed t ∷ []);
        genuine = cable_last q.files (handed t) q.genuine (g e);
        is = taken_right c t e ∙ ap (λ (l : List ℕ). after l (handed t)) q.is ∙ sym (shown_last (start P) q.files (handed t));
      })
      (λ e. subst Charted (sym (taken_wrong c t e)) q)

  -- and after any list of them
  pub charted_all : (c : List ℕ) (ts : List Reached) → Charted c → Brought P ts → Charted (shown_by c ts)
  unfolding Brought Each shown_by
  charted_all c [] q b = q
  charted_all c (t ∷ ts) q b = charted_all (after_parcel c t) ts (charted_after c t q b.0) b.1

  -- any parcel leaves a chart or moves it on by one
  pub parcel_stays : (c : List ℕ) (t : Reached) → Charted c → (after_parcel c t ≡ c) ⊎ (number_shown (after_parcel c t) ≡ number_shown c + 1)
  parcel_stays c t q =
      by_bool (carries_file t.parcel)
      (λ e. rw (taken_right c t e, q.is) ((demand_three P).stays q.files q.genuine (handed t)))
      (λ e. inl (taken_wrong c t e))

  -- so a number never falls
  pub parcel_grows : (c : List ℕ) (t : Reached) → Charted c → number_shown c ≤ number_shown (after_parcel c t)
  parcel_grows c t q = ⊎_elim (λ (e : after_parcel c t ≡ c). omega (arith, ap number_shown e)) (λ (e : number_shown (after_parcel c t) ≡ number_shown c + 1). omega arith) (parcel_stays c t q)

  pub parcels_grow : (c : List ℕ) (ts : List Reached) → Charted c → Brought P ts → number_shown c ≤ number_shown (shown_by c ts)
  unfolding Brought Each shown_by
  parcels_grow c [] q b = omega arith
  parcels_grow c (t ∷ ts) q b =
      let x = parcel_grows c t q in
      let y = parcels_grow (after_parcel c t) ts (charted_after c t q b.0) b.1 in
      omega arith

  -- a right parcel with the file that was issued next
  pub moves_on : (c : List ℕ) (t : Reached) (r : Dataset) → Charted c → carries_file t.parcel ≡ true → P.issued (number_shown c + 1) ≡ some (body_of t.parcel)
      → in_order P (suc (number_shown c - first P)) ≡ some r → Fits t r → (after_parcel c t ≡ written_bytes r) × (number_shown (after_parcel c t) ≡ number_shown c + 1)
  unfolding handed
  moves_on c t r q e i o m =
      let v : HasRoom (handed t) r = record { slice = m.slice; workspace = m.workspace } in
      let p = (demand_three P).onward q.files q.genuine (handed t) r (rw q.is at i) (rw q.is at o) v in
      let z : after_parcel c t ≡ after (chart P q.files) (handed t) = taken_right c t e ∙ ap (λ (l : List ℕ). after l (handed t)) q.is in
      (z ∙ p.holds, ap number_shown z ∙ p.by_one ∙ ap (λ (l : List ℕ). number_shown l + 1) (sym q.is))
