-- Demand 3 on the bridge cable, from demand 3. Assumes nothing.
use mathlib.Core.Path.{◌≡◌, refl, sym, ap, subst, ◌∙◌}
use mathlib.Core.Bool.{true}
use mathlib.Core.Option.{Option, some, none}
use mathlib.Core.List.{List, [], ◌∷◌, ◌++◌}
use Prim.Native.Nat.{ℕ, suc, ◌+◌, ◌-◌, ◌≤◌, ◌<◌}
use native.Mathlib.Omega.{arith}
use borrow.Author.Tests.{ltb-true, ltb-false}
use lib.Dec.{ltb}
use lib.ListN.{length, drop}
use Rattle.base.specs.Lists.{gather, Each}
use Rattle.base.specs.Keys.{same}
use Rattle.base.proofs.KeysLaws.{same_sound}
use Rattle.base.proofs.EachLaws.{each_join, each_zip}
use Rattle.fields.specs.Valid.{Bytes}
use Rattle.fields.proofs.ByteLaws.{bytes_drop, bytes_take}
use Rattle.sequence.proofs.Tests.{by_bool}
use Rattle.skeleton.specs.File.{Field}
use Rattle.rules.specs.General.{number_of}
use Rattle.rules.specs.Outcome.{done}
use Rattle.rules.specs.declared.Mode.TheVariants.{InUpdate}
use Rattle.rules.proofs.OutcomeLaws.{done_inj}
use Rattle.displays.specs.Display.{number_shown}
use Rattle.displays.specs.Publisher.{Publisher, start, first, Genuine, in_order}
use Rattle.displays.specs.Demand.{InStep}
use Rattle.demand.proofs.Trip.{demand_three}
use Rattle.parcels.specs.Parcel.{body_of, tells_holding, carries_file}
use Rattle.parcels.specs.Front.{general_in}
use Rattle.parcels.specs.Holding.{number_told, follows, holding}
use Rattle.parcels.specs.Shelf.{Placed, parcel_in, file_in, shelf_from, reply_from, reply}
use Rattle.parcels.specs.Taking.{Reached, after_parcel, shown_by}
use Rattle.parcels.specs.Exchange.{GenuineParcel, Brought, Exchange, when_told, when_answered, after_answer, after_exchange, answered, brought_by, Brings, RoomNext, Arrives, Exchanges, all_brought, after_all}
use Rattle.parcels.specs.Cable.{number_in, Issued, copies, Waits, Ready, chart_by, OnCable}
use Rattle.parcels.specs.declared.Reply.{Reply}
use Rattle.parcels.specs.declared.Reply.TheVariants.{Refused, Silence, Parcel}
use Rattle.parcels.proofs.HoldingLaws.{follows_inv}
use Rattle.parcels.proofs.ShelfLaws.{shelf_right, Found, finds, answered_from}
use Rattle.parcels.proofs.TakingLaws.{Charted, charted_start, charted_after, charted_all, parcel_stays, parcel_grows, parcels_grow, moves_on}
use Rattle.parcels.proofs.ToldLaws.{told_as, told_number, told_right, tells_so, follows_told, issued_genuine, chart_read, next_ruled}

-- a file that stands on a shelf of bytes is made of bytes
file_bytes : (s : List ℕ) (x : Placed) → Bytes s → Bytes (file_in s x)
unfolding file_in parcel_in body_of
file_bytes s x b = bytes_drop (parcel_in s x) 6 (bytes_take (x.start + x.whole - x.start) (drop x.start s) (bytes_drop s x.start b))

copied_bytes : (s f : List ℕ) (xs : List Placed) → Bytes s → 1 ≤ copies s f xs → Bytes f
unfolding copies
copied_bytes s f [] b c = absurd (omega arith)
copied_bytes s f (x ∷ xs) b c =
    by_bool (same (file_in s x) f)
    (λ e. subst Bytes (same_sound (file_in s x) f e) (file_bytes s x b))
    (λ e. copied_bytes s f xs b (rw e at c))

module _ (P : Publisher) (s : List ℕ) where
  -- a parcel of the shelf is right, and carries a file of the publisher
  record Good (x : Placed) : Type 0 where
    right : carries_file (parcel_in s x) ≡ true
    own : Issued P (file_in s x)

  -- ---- an answer

  -- it is a parcel that the cable may bring
  answer_genuine : (h : List ℕ) (t : Reached) → Each Good (shelf_from s 0).items → Brings s (reply h s) (some t) → GenuineParcel P t.parcel
  unfolding GenuineParcel file_in
  answer_genuine h t g b = go (reply h s) refl b
    where
      go : (r : Reply) → reply h s ≡ r → Brings s r (some t) → carries_file t.parcel ≡ true → Genuine P (body_of t.parcel)
      go Refused e z = unfold Brings in absurd z
      go Silence e z = unfold Brings in absurd z
      go (Parcel p n) e z = unfold Brings in
          λ _. rw z (issued_genuine P _ (answered_from h s Good g p n e).own)

  -- ---- one exchange

  module _ (k n₀ : ℕ) (y : Ready P s n₀ k) where
    all_good : Each Good (shelf_from s 0).items
    all_good = each_zip (shelf_from s 0).items (λ x r o. record { right = r; own = o }) (shelf_right s 0) y.own

    -- any answer leaves a chart of the publisher, and its number does not fall
    charted_answer : (h c : List ℕ) (a : Option Reached) → Brings s (reply h s) a → Charted P c → Charted P (after_answer c a)
    unfolding after_answer
    charted_answer h c none b q = q
    charted_answer h c (some t) b q = charted_after P c t q (answer_genuine h t all_good b)

    answer_grows : (c : List ℕ) (a : Option Reached) → Charted P c → number_shown c ≤ number_shown (after_answer c a)
    unfolding after_answer
    answer_grows c none q = omega arith
    answer_grows c (some t) q = parcel_grows P c t q

    -- a holding with number n, after which a file waits, is answered with that file
    module _ (n : ℕ) (w : Waits P s n) where
      answer_next : (h : List ℕ) → tells_holding h ≡ true → number_told h ≡ n → follows h w.file ≡ true
          → Found h s Good (reply h s)
      unfolding reply reply_from
      answer_next h i e f = rw i (finds h s w.file Good (shelf_from s 0).ending (shelf_from s 0).items all_good f w.stands)

      -- and that raises a chart which has that number
      taken_next : (c : List ℕ) (x : Placed) (t : Reached) → Charted P c → number_shown c ≡ n → Good x → t.parcel ≡ parcel_in s x → P.issued (n + 1) ≡ some (file_in s x)
          → RoomNext P c (some t) → number_shown (after_parcel c t) ≡ n + 1
      unfolding RoomNext file_in
      taken_next c x t q e g z i m =
          let o : in_order P (suc (number_shown c - first P)) ≡ some w.result = rw e w.accepted in
          (moves_on P c t w.result q (rw z g.right) (rw (e, z) i) o (m w.result o)).1 ∙ ap (λ (l : ℕ). l + 1) e

    -- by what the answer brought
    brought_next : (n : ℕ) (w : Waits P s n) (c : List ℕ) (x : Placed) (a : Option Reached) → Charted P c → n ≤ number_shown c → Good x → P.issued (n + 1) ≡ some (file_in s x)
        → Brings s (Parcel x.start x.whole) a → RoomNext P c a → n + 1 ≤ number_shown (after_answer c a)
    unfolding Brings after_answer
    brought_next n w c x none q l g i b m = absurd b
    brought_next n w c x (some t) q l g i b m =
        by_bool (ltb n (number_shown c))
        (λ e. omega (arith, ltb-true n (number_shown c) e, parcel_grows P c t q))
        (λ e. let z : number_shown c ≡ n = omega (arith, ltb-false n (number_shown c) e) in omega (arith, taken_next n w c x t q z g b i m))

    -- a display with chart c, its number n or more, after which a file waits
    module _ (n : ℕ) (w : Waits P s n) (c : List ℕ) (x : Exchange) (a : Arrives P s c x) (q : Charted P c) (l : n ≤ number_shown c) where
      q₁ : Charted P (when_told c x)
      q₁ = charted_all P c x.earlier q a.earlier

      q₂ : Charted P (when_answered c x)
      q₂ = charted_all P (when_told c x) x.meanwhile q₁ a.meanwhile

      later : number_shown (when_told c x) ≤ number_shown (when_answered c x)
      later = parcels_grow P (when_told c x) x.meanwhile q₁ a.meanwhile

      -- its holding is answered with the file that was issued next
      answer_is : number_shown (when_told c x) ≡ n → (y : Placed) × Good y × (P.issued (n + 1) ≡ some (file_in s y)) × (reply a.holding s ≡ Parcel y.start y.whole)
      answer_is e =
          let (d, rd) = chart_read P (when_told c x) q₁ in
          let b = copied_bytes s w.file (shelf_from s 0).items y.is_bytes w.stands in
          let (r, u) = next_ruled P (when_told c x) q₁ w.file w.result b (rw e w.issued) (rw e w.accepted) in
          let v : u.dataset ≡ d = done_inj u.dataset d (sym u.is_read ∙ rd) in
          let h : a.holding ≡ holding d.general = done_inj _ _ (sym a.tells ∙ told_as (when_told c x) d rd) in
          let k : number_told a.holding ≡ n = ap number_told h ∙ told_number (when_told c x) d rd ∙ e in
          let f = answer_next n w a.holding (rw h (told_right (when_told c x) d rd)) k (rw h (follows_told (when_told c x) d rd w.file r u v)) in
          let (fs, i, j) = follows_inv a.holding (file_in s f.parcel) f.follows_it in
          let o : number_in (general_in InUpdate (file_in s f.parcel)) ≡ some (n + 1) = number_of_lem f.parcel fs i (j ∙ ap (λ (m : ℕ). m + 1) k) in
          (f.parcel, f.has, issued_under f.parcel f.has.own o, f.answered)
        where
          number_of_lem : (z : Placed) (fs : List Field) → general_in InUpdate (file_in s z) ≡ done fs → number_of fs ≡ n + 1 → number_in (general_in InUpdate (file_in s z)) ≡ some (n + 1)
          number_of_lem z fs i j = unfold number_in in ap number_in i ∙ ap {B = Option ℕ} some j

          issued_under : (z : Placed) → Issued P (file_in s z) → number_in (general_in InUpdate (file_in s z)) ≡ some (n + 1) → P.issued (n + 1) ≡ some (file_in s z)
          issued_under z i o = unfold Issued in i (n + 1) o

      -- so the exchange leaves it at n + 1 or more
      exchange_raises : n + 1 ≤ number_shown (after_exchange c x)
      exchange_raises =
          by_bool (ltb n (number_shown (when_told c x)))
          (λ e. omega (arith, ltb-true n (number_shown (when_told c x)) e, later, answer_grows (when_answered c x) x.answer q₂))
          (λ e.
          let g = parcels_grow P c x.earlier q a.earlier in
          let z : number_shown (when_told c x) ≡ n = omega (arith, ltb-false n (number_shown (when_told c x)) e) in
          let (p, good, i, r) = answer_is z in
          brought_next n w (when_answered c x) p x.answer q₂ (omega (arith, later)) good i (subst (λ (o : Reply). Brings s o x.answer) r a.answers) a.room)

    -- exchanges one after the other
    climbs : (xs : List Exchange) (n : ℕ) (c : List ℕ) → Charted P c → n ≤ number_shown c → ((i : ℕ) → i < length xs → Waits P s (n + i)) → Exchanges P s c xs
        → n + length xs ≤ number_shown (after_all c xs)
    unfolding Exchanges after_all
    climbs [] n c q l w e = omega arith
    climbs (x ∷ xs) n c q l w e =
        let a = e.0 in
        let w₀ : Waits P s n = subst (Waits P s) (let z : n + 0 ≡ n = omega arith in z) (w 0 (omega arith)) in
        let up = exchange_raises n w₀ c x a q l in
        let q' = charted_answer a.holding (when_answered c x) x.answer a.answers (q₂ n w₀ c x a q l) in
        let r = climbs xs (n + 1) (after_exchange c x) q' up (λ i m. subst (Waits P s) (let z : n + suc i ≡ n + 1 + i = omega arith in z) (w (suc i) (omega arith))) e.1 in
        omega arith

-- ---- all that exchanges brought

shown_join : (c : List ℕ) (ts us : List Reached) → shown_by c (ts ++ us) ≡ shown_by (shown_by c ts) us
unfolding shown_by
shown_join c [] us = refl
shown_join c (t ∷ ts) us = shown_join (after_parcel c t) ts us

answer_shown : (c : List ℕ) (a : Option Reached) → after_answer c a ≡ shown_by c (answered a)
unfolding after_answer answered shown_by
answer_shown c none = refl
answer_shown c (some t) = refl

exchange_shown : (c : List ℕ) (x : Exchange) → after_exchange c x ≡ shown_by c (brought_by x)
unfolding brought_by
exchange_shown c x =
    answer_shown (when_answered c x) x.answer ∙ sym (shown_join (when_told c x) x.meanwhile (answered x.answer))
    ∙ sym (shown_join c x.earlier (x.meanwhile ++ answered x.answer))

all_shown : (xs : List Exchange) (c : List ℕ) → after_all c xs ≡ shown_by c (all_brought xs)
unfolding after_all all_brought gather shown_by
all_shown [] c = refl
all_shown (x ∷ xs) c =
    all_shown xs (after_exchange c x) ∙ ap (λ (l : List ℕ). shown_by l (all_brought xs)) (exchange_shown c x) ∙ sym (shown_join c (brought_by x) (all_brought xs))

module _ (P : Publisher) (s : List ℕ) (n k : ℕ) (y : Ready P s n k) where
  answer_brought : (h : List ℕ) (a : Option Reached) → Brings s (reply h s) a → Brought P (answered a)
  unfolding Brought answered Each
  answer_brought h none b = tt
  answer_brought h (some t) b = (answer_genuine P s h t (all_good P s k n y) b, tt)

  all_brought_lem : (xs : List Exchange) (c : List ℕ) → Exchanges P s c xs → Brought P (all_brought xs)
  unfolding Exchanges all_brought brought_by gather Brought Each
  all_brought_lem [] c e = tt
  all_brought_lem (x ∷ xs) c e =
      let a = e.0 in
      each_join _ (brought_by x) (all_brought xs)
      (each_join _ x.earlier (x.meanwhile ++ answered x.answer) a.earlier
      (each_join _ x.meanwhile (answered x.answer) a.meanwhile (answer_brought a.holding x.answer a.answers)))
      (all_brought_lem xs (after_exchange c x) e.1)

-- ---- what is promised

module _ (P : Publisher) where
  charted : (ts : List Reached) → Brought P ts → Charted P (chart_by P ts)
  charted ts b = charted_all P (start P) ts (charted_start P) b

  pub on_cable : OnCable P
  on_cable =
      record {
        in_step = λ ts b. let q = charted ts b in subst (InStep P) (sym q.is) ((demand_three P).in_step q.files q.genuine);
        alike = λ ts us b d. let q = charted ts b in let r = charted us d in
            (λ e. ap number_shown e, λ e. q.is ∙ ((demand_three P).alike q.files r.files q.genuine r.genuine).1 (ap number_shown (sym q.is) ∙ e ∙ ap number_shown r.is) ∙ sym r.is);
        stays = λ ts b t. parcel_stays P (chart_by P ts) t (charted ts b);
        onward = λ ts b t r e i o m. moves_on P (chart_by P ts) t r (charted ts b) e i o m;
        tells = λ ts b. let (d, e) = chart_read P (chart_by P ts) (charted ts b) in tells_so (chart_by P ts) d e;
        raised = λ ts b s xs y e. climbs P s (length xs) (number_shown (chart_by P ts)) y xs (number_shown (chart_by P ts)) (chart_by P ts) (charted ts b) (omega arith) y.next e;
        again = λ ts b s xs k y e. (
          unfold Brought in each_join _ ts (all_brought xs) b (all_brought_lem P s (number_shown (chart_by P ts)) k y xs (chart_by P ts) e),
          all_shown xs (chart_by P ts) ∙ sym (shown_join (start P) ts (all_brought xs)),
        );
      }
