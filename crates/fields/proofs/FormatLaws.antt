-- The rows of a format: what they give at a field's head, at a tuple and behind texts, for the functions that take a format. Assumes nothing.
use Prim.Native.Nat.{ℕ, ◌+◌, ◌-◌, ◌≤◌, ◌<◌}
use mathlib.Core.Path.{◌≡◌, sym, ap, ◌∙◌}
use mathlib.Core.Bool.{Bool, true}
use mathlib.Core.Option.{none}
use mathlib.Core.List.{List}
use native.Mathlib.Omega.{arith}
use lib.ListN.{length, take, drop}
use lib.Seq.{slice}
use Rattle.std.specs.Prelude.{Option as StdOption, Some, None, Result, Err}
use Rattle.fields.specs.Table.{head_of, tuple_of}
use Rattle.fields.specs.Sizes.{sizes}
use Rattle.fields.specs.Content.{tally, tally_field}
use Rattle.fields.specs.Places.{subfields_end, head_place, tally_at, tuple_at, all_raw}
use Rattle.fields.specs.Rows.{rows, table, shape_of}
use Rattle.fields.specs.declared.Format.{Format}
use Rattle.fields.specs.declared.Sub.{Sub}
use Rattle.fields.specs.declared.row.Shape.{Shape}
use Rattle.fields.proofs.SizeLaws.{subfields_bound, after_at, after_bad}
use Rattle.fields.proofs.RowLaws.{its, rows_take, rows_all}
use Rattle.fields.proofs.TupleLaws.{tuple_end, tuple_bad, tuple_to}
use Rattle.fields.proofs.FieldLaws.{field_some}

field_none : (h t : List Sub) (b : List ℕ) → sizes h b ≡ none → Err 0 ≡ tally_field h t b
unfolding tally_field
field_none h t b e = sym (rw e)

module _ (k : Format) (s : Shape) (e : s ≡ shape_of k) where
  pub head_first : s.0 ≤ s.1
  head_first = (its k s e).head_first

  pub tuple_second : s.1 ≤ s.2
  tuple_second = (its k s e).tuple_second

  pub head_in : s.1 ≤ rows
  head_in = (its k s e).head_in

  pub tuple_in : s.2 ≤ rows
  tuple_in = (its k s e).tuple_in

  module _ (b : List ℕ) (r : StdOption ℕ) (got : r ≡ subfields_end (slice s.0 s.1 table) b 0) where
    head_end : r ≡ subfields_end (head_of k) b 0
    head_end = got ∙ ap (λ (ds : List Sub). subfields_end ds b 0) (its k s e).head_is

    pub head_inside : (n : ℕ) → r ≡ Some n → n ≤ length b
    head_inside n q = subfields_bound (head_of k) b 0 n (omega arith) (sym head_end ∙ q)

    pub field_bad : r ≡ None → Err 0 ≡ tally_field (head_of k) (tuple_of k) b
    unfolding subfields_end
    field_bad q = field_none (head_of k) (tuple_of k) b (after_bad 0 (sizes (head_of k) b) (sym head_end ∙ q))

    pub field_on : (n : ℕ) → r ≡ Some n → (y : Result ℕ ℕ) → y ≡ tally_at (slice s.1 s.2 table) b n 0 → y ≡ tally_field (head_of k) (tuple_of k) b
    unfolding subfields_end tally_at
    field_on n q y z =
        let u = after_at 0 n (sizes (head_of k) b) (sym head_end ∙ q) in
        let m : n ≡ u.0 = omega (arith, u.2) in
        z
        ∙ ap (λ (ds : List Sub). tally ds (drop n b) 0) (its k s e).tuple_is
        ∙ ap (λ (j : ℕ). tally (tuple_of k) (drop j b) 0) m
        ∙ sym (field_some (head_of k) (tuple_of k) b u.0 u.1)

  module _ (b : List ℕ) (at : ℕ) (h : at < length b) (r : StdOption ℕ) (got : r ≡ subfields_end (slice s.1 s.2 table) b at) where
    tuple_stop : subfields_end (tuple_of k) b at ≡ r
    tuple_stop = sym (got ∙ ap (λ (ds : List Sub). subfields_end ds b at) (its k s e).tuple_is)

    pub rows_over : r ≡ None → None ≡ tuple_at (tuple_of k) b at
    rows_over q = tuple_bad (tuple_of k) b at h (tuple_stop ∙ q)

    pub rows_until : (n : ℕ) → r ≡ Some n → Some n ≡ tuple_at (tuple_of k) b at
    rows_until n q = tuple_to (tuple_of k) b at h n (tuple_stop ∙ q)

  pub place_in_lem : (j : ℕ) → j < s.1 - s.0 → s.0 + j ≤ rows
  place_in_lem j h = let q : s.1 ≤ rows = head_in in omega arith

  module _ (b : List ℕ) (j : ℕ) (r : StdOption ℕ) where
    place_by : (ds : List Sub) → r ≡ subfields_end ds b 0 → take j (slice s.0 s.1 table) ≡ ds → r ≡ head_place (head_of k) j b
    unfolding head_place
    place_by ds got q =
        got ∙ ap (λ (x : List Sub). subfields_end x b 0) (sym q) ∙ ap (λ (x : List Sub). subfields_end (take j x) b 0) (its k s e).head_is

    pub place_before : j < s.1 - s.0 → r ≡ subfields_end (slice s.0 (s.0 + j) table) b 0 → r ≡ head_place (head_of k) j b
    place_before h got = place_by (slice s.0 (s.0 + j) table) got (rows_take s.0 s.1 j (omega arith))

    pub place_behind : s.1 - s.0 ≤ j → r ≡ subfields_end (slice s.0 s.1 table) b 0 → r ≡ head_place (head_of k) j b
    place_behind h got = place_by (slice s.0 s.1 table) got (rows_all s.0 s.1 j head_in h)

pub raw_said : (t : List Sub) (u : Bool) → u ≡ all_raw t → u ≡ true → all_raw t ≡ true
raw_said t u e q = sym e ∙ q

pub ruleset tuple_turn = (tuple_end, rows_over, rows_until, tuple_second, tuple_in, arith)

pub ruleset place_turn = (place_before, place_in_lem, place_behind, head_first, head_in, arith)

pub ruleset field_turn = (head_first, tuple_second, head_in, tuple_in, head_inside, field_bad, field_on, raw_said, arith)
