-- Laws of NCOR and of the coordinate tuples that a record sends. Assumes nothing.
use mathlib.Core.Path.{◌≡◌, refl, sym, ap, ◌∙◌}
use mathlib.Core.Bool.{Bool, true, false, not}
use mathlib.Core.List.{List, ◌∷◌}
use Prim.Native.Nat.{ℕ, ◌+◌, ◌-◌, ◌/◌, ◌≤◌, ◌<◌}
use native.Mathlib.Nat.{zero-add}
use native.Mathlib.Omega.{arith}
use borrow.Author.Tests.{eq-eqb, ne_eqb, eqb-true, eqb-false}
use lib.Dec.{eqb}
use lib.ListN.{length, drop, length-append}
use Rattle.std.specs.Prelude.{Option, Some, None, Result, Ok, Err}
use Rattle.base.specs.Choice.{pick, both, either}
use Rattle.base.specs.Lists.{each, gather}
use Rattle.base.specs.Check.{fault}
use Rattle.base.specs.Verdict.{verdict_of}
use Rattle.base.specs.declared.Fault.{Fault}
use Rattle.fields.specs.Bytes.{le}
use Rattle.fields.specs.Table.{head_of, tuple_of}
use Rattle.fields.specs.Content.{fill}
use Rattle.fields.specs.declared.Format.TheVariants.{Cocc}
use Rattle.fields.proofs.ValueLaws.{head_number}
use Rattle.skeleton.specs.File.{Field}
use Rattle.skeleton.specs.Place.{between, place_at, fields_at}
use Rattle.skeleton.specs.declared.directory.Shape.{Shape}
use Rattle.skeleton.specs.declared.place.Place.{Place}
use Rattle.skeleton.proofs.PlaceLaws.{fields_more, fields_done, place_in_lem}
use Rattle.skeleton.proofs.BetweenLaws.{length_between}
use Rattle.rules.specs.Tags.{COCC, C2IL}
use Rattle.rules.specs.ByTag.{with_tag, bodies}
use Rattle.rules.specs.Coordinates.{coords_in, sent, place_in}
use Rattle.rules.specs.Content.{format_of, miscounts, counted}
use Rattle.rules.proofs.CoordinateLaws.{coords_length}
use Rattle.contents.specs.Fit.{fits}
use Rattle.contents.specs.Answers.{sent_in, send_from, counted_from, since}
use Rattle.contents.proofs.StepLaws.{step_bounds}
use Rattle.contents.proofs.SinceLaws.{since_by}
use Rattle.contents.proofs.FitLaws.{fit_here, fit_next}
use Rattle.contents.proofs.FormatLaws.{of_cocc}

-- ---- how many tuples a field sends

-- a field and those after it
sent_more : (f : Field) (fs : List Field) → length (sent (f ∷ fs)) ≡ sent_in f.tag (length f.body) + length (sent fs)
unfolding sent bodies with_tag sent_in gather each
sent_more f fs = go (eqb f.tag C2IL)
  where
    go : (t : Bool) → length (gather coords_in (each (λ (g : Field). g.body) (pick t (f ∷ with_tag C2IL fs) (with_tag C2IL fs)))) ≡ pick t (length f.body / 8) 0 + length (gather coords_in (each (λ (g : Field). g.body) (with_tag C2IL fs)))
    go true = length-append (coords_in f.body) _ ∙ ap (λ (n : ℕ). n + length (gather coords_in (each (λ (g : Field). g.body) (with_tag C2IL fs)))) (coords_length f.body)
    go false = sym (zero-add _)

-- ---- the loop that counts down: at place q with so many tuples left, where the whole comes to B

less_some : (a b c : ℕ) → a < b → eqb a (b + c) ≡ false
less_some a b c h = ne_eqb a (b + c) (λ e. omega arith)

take_off : (a b c : ℕ) → b ≤ a → eqb (a - b) c ≡ eqb a (b + c)
take_off a b c h = go (eqb (a - b) c) refl
  where
    go : (t : Bool) → eqb (a - b) c ≡ t → eqb (a - b) c ≡ eqb a (b + c)
    go true e = let z : a - b ≡ c = eqb-true (a - b) c e in e ∙ sym (eq-eqb a (b + c) (omega arith))
    go false e = let z : a - b ≡ c → ⊥ = eqb-false (a - b) c e in e ∙ sym (ne_eqb a (b + c) (λ y. z (omega arith)))

module _ (r : List ℕ) (h : Shape) (q left : ℕ) (B : Bool) (inv : send_from r h q left ≡ B) (e : Option Place) (en : e ≡ place_at r h q) where
  pub send_done : e ≡ None → eqb left 0 ≡ B
  unfolding send_from sent bodies with_tag gather each
  send_done x = rw (fields_done r h q e en x) at inv

  module _ (d : Place) (x : e ≡ Some d) (here : ℕ) (eh : here ≡ sent_in d.tag (d.end - d.start)) where
    turn : eqb left (here + length (sent (fields_at r h d.next))) ≡ B
    unfolding send_from
    turn =
        let l = length_between r d.start d.end (place_in_lem r h q e en d x) in
        let m = sent_more (record { tag = d.tag; body = between r d.start d.end }) (fields_at r h d.next) in
        rw (eh, ← l, ← m) (rw (fields_more r h q e en d x) at inv)

    pub send_over : left < here → false ≡ B
    send_over l = sym (less_some left here (length (sent (fields_at r h d.next))) l) ∙ turn

    pub send_more : here ≤ left → send_from r h d.next (left - here) ≡ B
    unfolding send_from
    send_more l = take_off left here (length (sent (fields_at r h d.next))) l ∙ turn

pub ruleset send_turn = (send_done, send_over, send_more, step_bounds)

-- ---- one COCC

pub sent_list : (t n : ℕ) → t ≡ 0x4332494c → n / 8 ≡ sent_in t n
unfolding sent_in
sent_list t n e = simp (eq-eqb t 0x4332494c e)

pub sent_other : (t n : ℕ) → (t ≡ 0x4332494c → ⊥) → 0 ≡ sent_in t n
unfolding sent_in
sent_other t n e = simp (ne_eqb t 0x4332494c e)

pub ruleset sent_in_ways = (sent_list, sent_other)

module _ (r : List ℕ) (h : Shape) (p tag : ℕ) (b : List ℕ) where
  -- how many are sent
  abbrev count : ℕ
  count = length (sent (fields_at r h p))

  pub miscount_other : (tag ≡ 0x434f4343 → ⊥) → false ≡ both (eqb tag COCC) (miscounts count (place_in b))
  miscount_other m = simp (ne_eqb tag 0x434f4343 m)

  module _ (z : tag ≡ 0x434f4343) (f : fits false (record { tag = tag; body = b }) ≡ true) where
    cocc_fill : fill (head_of Cocc) (tuple_of Cocc) b ≡ true
    unfolding fits
    cocc_fill = rw (cocc_is z) at f
      where
        cocc_is : tag ≡ 0x434f4343 → format_of false tag b ≡ Cocc
        cocc_is e = sym (of_cocc false tag b e)

    -- its five bytes are there
    pub cocc_first : 0 + 1 ≤ length b
    unfolding head_of
    cocc_first = (head_number (head_of Cocc) (tuple_of Cocc) b cocc_fill 0 0 1 refl refl).0

    pub cocc_last : 3 + 2 ≤ length b
    unfolding head_of
    cocc_last = (head_number (head_of Cocc) (tuple_of Cocc) b cocc_fill 2 3 2 refl refl).0

    module _ (v : ℕ) (ev : v ≡ le 1 (drop 0 b)) where
      coui : (place_in b).instruction ≡ v
      unfolding head_of place_in
      coui = (head_number (head_of Cocc) (tuple_of Cocc) b cocc_fill 0 0 1 refl refl).1 ∙ sym ev

      pub miscount_delete : v ≡ 2 → false ≡ both (eqb tag COCC) (miscounts count (place_in b))
      unfolding miscounts
      miscount_delete y = simp (eq-eqb tag 0x434f4343 z, coui, eq-eqb v 2 y)

      pub miscount_by : (v ≡ 2 → ⊥) → (w : ℕ) → w ≡ le 2 (drop 3 b) → (t : Bool) → t ≡ send_from r h p w → not t ≡ both (eqb tag COCC) (miscounts count (place_in b))
      unfolding miscounts head_of place_in send_from
      miscount_by y w ew t et =
          let c : (place_in b).count ≡ w = (head_number (head_of Cocc) (tuple_of Cocc) b cocc_fill 2 3 2 refl refl).1 ∙ sym ew in
          simp (eq-eqb tag 0x434f4343 z, coui, ne_eqb v 2 y, c, ← et)

pub ruleset miscount_ways = (miscount_other, cocc_first, cocc_last, miscount_delete, miscount_by)

-- ---- the loop over the fields: at place q, field i, where the whole comes to A

module _ (r : List ℕ) (h : Shape) (p q i : ℕ) (A : Result (Unit {0}) Fault) (inv : counted_from r h p q i ≡ A) (e : Option Place) (en : e ≡ place_at r h q) where
  pub counted_done : e ≡ None → Ok tt ≡ A
  unfolding counted_from counted verdict_of
  counted_done x = rw (fields_done r h q e en x) at inv

  module _ (d : Place) (x : e ≡ Some d) (t : Bool)
      (et : t ≡ both (eqb d.tag COCC) (miscounts (length (sent (fields_at r h p))) (place_in (between r d.start d.end)))) where
    pub counted_wrong : t ≡ true → Err (fault 5 i 0) ≡ A
    unfolding counted_from counted verdict_of
    counted_wrong z = simp (← et, z) at (rw (fields_more r h q e en d x) at inv)

    pub counted_more : t ≡ false → counted_from r h p d.next (i + 1) ≡ A
    unfolding counted_from counted
    counted_more z = simp (← et, z) at (rw (fields_more r h q e en d x) at inv)

pub ruleset counted_turn = (counted_done, counted_wrong, counted_more, fit_here, fit_next, step_bounds)

-- ---- COCC noticed on the way: at place q, field i

pub cocc_more : (r : List ℕ) (h : Shape) (p q i : ℕ) (e : Option Place) → e ≡ place_at r h q → (u : Place) → e ≡ Some u → (c : Bool)
    → since c (counted_from r h p p 2) (counted_from r h p q i) ≡ counted_from r h p p 2 → (d : Bool) → d ≡ either c (eqb u.tag COCC)
    → since d (counted_from r h p p 2) (counted_from r h p u.next (i + 1)) ≡ counted_from r h p p 2
cocc_more r h p q i e en u x c k d ed =
    let whole = counted_from r h p p 2 in
    let turn : eqb u.tag COCC ≡ false → counted_from r h p q i ≡ whole → counted_from r h p u.next (i + 1) ≡ whole
    = λ z inv. counted_more r h p q i whole inv e en u x false (simp z) refl in
    rw ed (since_by whole (counted_from r h p q i) (counted_from r h p u.next (i + 1)) (eqb u.tag COCC) turn c k)
