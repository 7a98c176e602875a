-- Laws of a walk over the keys of a record's associations. Assumes nothing.
use mathlib.Core.Path.{◌≡◌, refl, sym, ap, ◌∙◌}
use mathlib.Core.List.{List, [], ◌∷◌, ◌++◌}
use mathlib.Core.Bool.{true, false}
use Prim.Native.Nat.{ℕ, ◌+◌, ◌-◌, ◌*◌, ◌^◌, ◌≤◌, ◌<◌}
use native.Mathlib.Omega.{arith}
use borrow.Author.Tests.{eq-eqb, ne_eqb}
use lib.ListN.{length, drop, length-take, length-drop}
use Rattle.std.specs.Prelude.{Option, Some, None}
use Rattle.base.specs.Lists.{each, gather}
use Rattle.base.specs.Walk.{Got}
use Rattle.base.proofs.ListLaws.{each_append}
use Rattle.fields.specs.Bytes.{le}
use Rattle.fields.specs.Values.{Val}
use Rattle.fields.specs.Table.{head_of, tuple_of}
use Rattle.fields.specs.Content.{many, fill}
use Rattle.fields.specs.Places.{ending_at}
use Rattle.fields.specs.declared.Format.TheVariants.{Spas}
use Rattle.fields.proofs.TupleLaws.{here_end}
use Rattle.skeleton.specs.File.{Field}
use Rattle.skeleton.specs.Place.{between, place_at, fields_at}
use Rattle.skeleton.specs.declared.directory.Shape.{Shape}
use Rattle.skeleton.specs.declared.place.Place.{Place}
use Rattle.skeleton.proofs.BetweenLaws.{length_between}
use Rattle.skeleton.proofs.PlaceLaws.{fields_more, fields_done, place_falls, place_runs, place_in_lem}
use Rattle.rules.specs.Content.{inas_format}
use Rattle.rules.specs.Associations.{spas_key, spas_keys, inas_key, field_keys}
use Rattle.contents.specs.Fit.{all_fit}
use Rattle.contents.specs.Keys.{list_of, inas_key_at, keys_in}
use Rattle.contents.specs.declared.earlier.Key.{Key}
use Rattle.contents.specs.declared.earlier.Key.TheVariants.{Information, Spatial}
use Rattle.contents.proofs.EarlierLaws.{inas_listed, inas_filled, spas_filled}
use Rattle.contents.proofs.FitLaws.{fit_here, fit_next}
use Rattle.contents.proofs.SpatialLaws.{spas_ends, spas_next, spas_more}
use Rattle.contents.specs.Codes.{code_of, codes_in, walk_from, codes_from, Walks, Steps}
use Rattle.contents.specs.declared.codes.Walk.{Walk}

-- ---- the code of a key

module _ (key : Key) (c : ℕ) where
  pub code_four : (x y z w : ℕ) → key ≡ Information x y z w → c ≡ y * 4294967296 + (z * 65536 + w) → c ≡ code_of (list_of key)
  unfolding code_of
  code_four x y z w e z' = rw e z'

  pub code_two : (x y : ℕ) → key ≡ Spatial x y → c ≡ y * 4294967296 + (x * 65536 + 65535) → c ≡ code_of (list_of key)
  unfolding code_of
  code_two x y e z = rw e z

pub code_inas : (b : List ℕ) → fill (head_of (inas_format false b)) (tuple_of (inas_format false b)) b ≡ true → (key : Key) → key ≡ inas_key_at b
    → (c : ℕ) → c ≡ code_of (list_of key) → c ≡ code_of (inas_key b)
code_inas b f key ek c ec = ec ∙ ap (λ (k : Key). code_of (list_of k)) ek ∙ ap code_of (inas_listed b f)

pub code_spas : (b : List ℕ) (at x y c : ℕ) → x ≡ le 1 (drop at b) → y ≡ le 4 (drop (at + 1) b) → c ≡ code_of (list_of (Spatial x y))
    → c ≡ code_of (le 1 (drop at b) ∷ le 4 (drop (at + 1) b) ∷ [])
code_spas b at x y c ex ey ec = rw (← ex, ← ey) ec

pub ruleset code_ways = (code_four, code_two, code_inas, code_spas)

-- ---- a walk at a tuple

no_keys : (b : List ℕ) (at : ℕ) → length b ≤ at → spas_keys (drop at b) ≡ []
unfolding spas_keys many each
no_keys b at l = ap (λ (g : Got (List Val)). each spas_key g.items) (here_end (tuple_of Spas) b at l)

module _ (r : List ℕ) (h : Shape) (w : Walk) (k : Walks r h w) where
  abbrev body : List ℕ
  body = between r w.start w.end

  long : length body ≡ w.end - w.start
  long = let i = k.inside in length_between r w.start w.end (omega arith)

  module _ (l : w.at < w.end - w.start) where
    inside : w.at < length body
    inside = let e = long in omega arith

    pub tuple_in : w.at + 5 ≤ length body
    tuple_in = let n = (spas_next body w.at k.even inside).inside in omega arith

    pub tuple_word : length r < 2 ^ 64 → w.at + 15 < 2 ^ 64
    tuple_word g =
        let n = (spas_next body w.at k.even inside).inside in
        let e = long in
        let i = k.inside in
        omega arith

    pub tuple_steps : (c : ℕ) → c ≡ code_of (le 1 (drop w.at body) ∷ le 4 (drop (w.at + 1) body) ∷ [])
        → Steps r h w (Some (c, record { next = w.next; start = w.start; end = w.end; at = w.at + 15 }))
    unfolding codes_from each
    tuple_steps c ec = (
      rw (spas_more body w.at k.even inside, ec) refl,
      record { fit = k.fit; even = (spas_next body w.at k.even inside).rest; runs = k.runs; inside = k.inside },
    )

  -- at none
  pub past_tuples : w.end - w.start ≤ w.at → codes_from r h w ≡ codes_in (fields_at r h w.next)
  unfolding codes_from each
  past_tuples l = let e = long in rw (no_keys body w.at (omega arith)) refl

pub ruleset tuple_ways = (tuple_in, tuple_word, tuple_steps, arith)

-- ---- a walk at an entry

pub from_codes : (r : List ℕ) (h : Shape) (p : ℕ) → codes_from r h (walk_from p) ≡ codes_in (fields_at r h p)
unfolding codes_from each
from_codes r h p = rw (no_keys (between r 0 0) 0 (simp (length-take, length-drop) (omega arith))) refl

pub from_walks : (r : List ℕ) (h : Shape) (p : ℕ) → all_fit false (fields_at r h p) ≡ true → Walks r h (walk_from p)
unfolding ending_at
from_walks r h p f = record {
  fit = f;
  even = ap (λ (g : Got (List Val)). g.ending) (here_end (tuple_of Spas) (between r 0 0) 0 (simp (length-take, length-drop) (omega arith)));
  runs = omega arith;
  inside = omega arith;
}

-- the same codes are before it
pub steps_same : (r : List ℕ) (h : Shape) (v w : Walk) → codes_from r h v ≡ codes_from r h w → (e : Option (ℕ × Walk)) → Steps r h v e → Steps r h w e
steps_same r h v w s (Some a) k = (sym s ∙ k.0, k.1)
steps_same r h v w s None k = sym s ∙ k

module _ (r : List ℕ) (h : Shape) (p q : ℕ) (inv : codes_in (fields_at r h p) ≡ codes_in (fields_at r h q)) (e : Option Place) (en : e ≡ place_at r h q) where
  pub first_done : e ≡ None → Steps r h (walk_from p) None
  unfolding codes_in keys_in gather each
  first_done x = from_codes r h p ∙ inv ∙ rw (fields_done r h q e en x) refl

  module _ (d : Place) (x : e ≡ Some d) where
    abbrev field : Field
    field = record { tag = d.tag; body = between r d.start d.end }

    parted : codes_in (fields_at r h p) ≡ each code_of (field_keys field) ++ codes_in (fields_at r h d.next)
    unfolding codes_in keys_in gather
    parted = inv ∙ rw (fields_more r h q e en d x) (each_append code_of (field_keys field) (gather field_keys (fields_at r h d.next)))

    pub first_inas : all_fit false (fields_at r h q) ≡ true → d.tag ≡ 0x494e4153 → (c : ℕ) → c ≡ code_of (inas_key (between r d.start d.end)) → (on : Walk) → on ≡ walk_from d.next
        → Steps r h (walk_from p) (Some (c, on))
    unfolding field_keys each
    first_inas f t c ec on eo =
        let s : each code_of (field_keys field) ≡ code_of (inas_key (between r d.start d.end)) ∷ [] = simp (eq-eqb d.tag 0x494e4153 t) in
        rw (eo, ec) (
          from_codes r h p ∙ parted ∙ rw (s, from_codes r h d.next) refl,
          from_walks r h d.next (fit_next r h q e en d x false f),
        )

    module _ (t : d.tag ≡ 0x53504153) where
      at_spas : each code_of (field_keys field) ≡ each code_of (spas_keys (between r d.start d.end))
      unfolding field_keys
      at_spas = let n : d.tag ≡ 0x494e4153 → ⊥ = λ z. omega arith in simp (ne_eqb d.tag 0x494e4153 n, eq-eqb d.tag 0x53504153 t)

      pub first_walks : all_fit false (fields_at r h q) ≡ true → Walks r h (record { next = d.next; start = d.start; end = d.end; at = 0 })
      first_walks f = record {
        fit = fit_next r h q e en d x false f;
        even = spas_ends (between r d.start d.end) (spas_filled (between r d.start d.end) d.tag (fit_here r h q e en d x false f) t);
        runs = place_runs r h q e en d x;
        inside = place_in_lem r h q e en d x;
      }

      pub first_tuple : (s : Option (ℕ × Walk)) → Steps r h (record { next = d.next; start = d.start; end = d.end; at = 0 }) s → Steps r h (walk_from p) s
      unfolding codes_from
      first_tuple s k =
          steps_same r h (record { next = d.next; start = d.start; end = d.end; at = 0 }) (walk_from p)
          (sym (from_codes r h p ∙ parted ∙ rw at_spas refl)) s k

      pub first_empty : d.end ≤ d.start → codes_in (fields_at r h p) ≡ codes_in (fields_at r h d.next)
      unfolding each
      first_empty l =
          parted ∙ rw (at_spas, no_keys (between r d.start d.end) 0 (simp (length-take, length-drop) (omega arith))) refl

    pub first_other : (d.tag ≡ 0x494e4153 → ⊥) → (d.tag ≡ 0x53504153 → ⊥) → codes_in (fields_at r h p) ≡ codes_in (fields_at r h d.next)
    unfolding field_keys each
    first_other n m = parted ∙ simp (ne_eqb d.tag 0x494e4153 n, ne_eqb d.tag 0x53504153 m)

-- the field at q is an INAS that has its format
pub inas_here : (r : List ℕ) (h : Shape) (q : ℕ) (e : Option Place) → e ≡ place_at r h q → (d : Place) → e ≡ Some d
    → all_fit false (fields_at r h q) ≡ true → d.tag ≡ 0x494e4153
    → fill (head_of (inas_format false (between r d.start d.end))) (tuple_of (inas_format false (between r d.start d.end))) (between r d.start d.end) ≡ true
inas_here r h q e en d x f t = inas_filled (between r d.start d.end) d.tag (fit_here r h q e en d x false f) t

pub ruleset first_turn = (first_done, first_inas, first_walks, first_tuple, first_empty, first_other, inas_here, fit_next, place_falls, place_runs, place_in_lem, arith)

-- ---- one step

pub advance_first : (r : List ℕ) (h : Shape) (w : Walk) → Walks r h w → w.end - w.start ≤ w.at → (e : Option (ℕ × Walk)) → Steps r h (walk_from w.next) e → Steps r h w e
advance_first r h w k l e s = steps_same r h (walk_from w.next) w (from_codes r h w.next ∙ sym (past_tuples r h w k l)) e s

pub ruleset advance_ways = (advance_first, arith)
