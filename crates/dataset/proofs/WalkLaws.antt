-- Laws of the walk over the records after the third. Assumes nothing.
use mathlib.Core.Path.{◌≡◌, refl, sym, ◌∙◌, ap}
use mathlib.Core.Bool.{Bool, true, false}
use mathlib.Core.List.{List}
use Prim.Native.Nat.{ℕ, ◌+◌, ◌-◌, ◌^◌, ◌≤◌, ◌<◌, max}
use native.Mathlib.Omega.{arith}
use borrow.Author.Tests.{ltb-true, ltb-false}
use lib.Dec.{ltb}
use lib.ListN.{length, replicate, length-drop}
use Rattle.std.specs.Prelude.{Result, Ok, Err}
use Rattle.std.specs.Result.{IsErrAnd}
use Rattle.std.proofs.lemmas.Result.{err_from_is_err_and}
use Rattle.base.specs.Check.{ok, fault}
use Rattle.base.specs.Lists.{each}
use Rattle.base.specs.Verdict.{result_of, verdict_of, refusal}
use Rattle.base.specs.declared.Fault.{Fault}
use Rattle.base.specs.Choice.{larger_of}
use Rattle.base.proofs.ChoiceLaws.{by_test}
use Rattle.base.proofs.CheckLaws.{passed_is, refused_is, value_is, fault_is}
use Rattle.memory.specs.Hold.{zeros}
use Rattle.skeleton.specs.Leader.{number_of}
use Rattle.skeleton.specs.Place.{between, fields_at}
use Rattle.skeleton.specs.Record.{record_at}
use Rattle.skeleton.specs.RightFrom.{RightFrom}
use Rattle.skeleton.specs.Shape.{Bounded}
use Rattle.skeleton.specs.declared.leader.Head.{Head}
use Rattle.skeleton.specs.declared.leader.Broken.{Broken}
use Rattle.skeleton.proofs.FileLaws.{records_over}
use Rattle.skeleton.proofs.RecordLaws.{right, record_in_lem, record_bounded}
use Rattle.skeleton.proofs.RightLaws.{right_start}
use Rattle.rules.specs.Associations.{number7}
use Rattle.rules.specs.Outcome.{done, refused}
use Rattle.rules.specs.declared.Kind.{Kind}
use Rattle.rules.specs.declared.Mode.TheVariants.{InDataset}
use Rattle.keys.specs.Key.{key_at}
use Rattle.keys.specs.Listed.{keys_from}
use Rattle.keys.specs.Map.{kind_in}
use Rattle.keys.specs.Once.{Once, Comes, Told}
use Rattle.keys.specs.Standing.{four_to_six, Standing}
use Rattle.book.specs.First.{Ahead, Said}
use Rattle.keys.proofs.PassedLaws.{placed_five, placed_tag}
use Rattle.keys.proofs.StandingLaws.{once_start, standing_start, standing_over, standing_refused, standing_before, standing_comes, standing_kind, standing_seven, standing_within, standing_more}
use Rattle.dataset.specs.Numbers.{four_to_six_in}
use Rattle.dataset.specs.Walk.{whole_from, Went, Admitted, walked_by}

-- ---- the record at p

module _ (f : List ℕ) (p : ℕ) (d : Head) (hd : record_at f p ≡ Ok d) where
  pub at_bounded : Bounded d.shape
  at_bounded = record_bounded f p (record_at f p) refl d hd

  pub at_right : RightFrom (between f p (p + d.len)) d.shape 24
  at_right = right_start f p d.len d.shape hd

  pub at_in : p + d.len ≤ length f
  at_in = record_in_lem f p (record_at f p) refl d hd

  pub at_word : length f ≤ 16777216 → p + d.len < 2 ^ 64
  at_word s = let i = at_in in omega arith

  pub base_word : length f ≤ 16777216 → p < length f → p + d.shape.base < 2 ^ 64
  base_word s l = let b = at_bounded in omega arith

  pub base_small : length f ≤ 16777216 → p < length f → p + d.shape.base < 2 ^ 63
  base_small s l = let b = at_bounded in omega arith

module _ (f : List ℕ) (start p : ℕ) (d : Head) (m top : ℕ) (hd : record_at f p ≡ Ok d) (l : p < length f)
    (s : Standing f start p m top (whole_from f start)) where
  module _ (k : Kind) (ek : four_to_six (kind_in top) (fields_at (between f p (p + d.len)) d.shape 24) ≡ ok k) (key : ℕ) (e : key ≡ key_at f (p + d.shape.base)) where
    pub key_comes : Comes f start m key
    key_comes = standing_comes f start p m top _ s l (record_at f p) refl d hd k ek key e

    pub key_kind : kind_in top ≤ kind_in key
    key_kind = standing_kind f start p m top _ s l (record_at f p) refl d hd k ek key e

    module _ (t t' : List ℕ) (w : ℕ) (b : Bool) (said : Said f start m top key t t' w b) where
      told : Told f start m top key t t' b
      told = said.told

      pub key_twice : b ≡ true → Went f start p d.len m top t' w (Err (fault 7 1 0))
      unfolding Went
      key_twice z = standing_seven f start p m top _ s l (record_at f p) refl d hd k ek key e b told.told z

      module _ (q : b ≡ false) (v : Result (Unit {0}) Fault) (ev : v ≡ verdict_of (number7 (fields_at (between f p (p + d.len)) d.shape 24))) where
        pub links_twice : (z : Fault) → v ≡ Err z → Went f start p d.len m top t' w (Err z)
        unfolding Went
        links_twice z x =
            standing_within f start p m top _ s l (record_at f p) refl d hd k ek key e b told.told q z
            (refused_is _ z (sym x ∙ ev))

        pub record_right : v ≡ Ok tt → Went f start p d.len m top t' w (Ok key)
        unfolding Went
        record_right x = (
          standing_more f start p m top _ s l (record_at f p) refl d hd k ek key e b told.told q tt (passed_is _ (sym x ∙ ev)),
          told.once q,
          said.ahead q,
        )

  module _ (least : ℕ) (el : least ≡ kind_in top) (g : Result Kind Fault) (eg : g ≡ result_of (four_to_six_in InDataset least (fields_at (between f p (p + d.len)) d.shape 24))) where
    numbers : g ≡ result_of (four_to_six (kind_in top) (fields_at (between f p (p + d.len)) d.shape 24))
    unfolding four_to_six_in four_to_six
    numbers = rw el at eg

    pub four_passed : (k : Kind) → g ≡ Ok k → four_to_six (kind_in top) (fields_at (between f p (p + d.len)) d.shape 24) ≡ ok k
    four_passed k x = value_is _ k (sym x ∙ numbers)

    pub four_stopped : (t : List ℕ) (w : ℕ) (z : Fault) → g ≡ Err z → Went f start p d.len m top t w (Err z)
    unfolding Went
    four_stopped t w z x = standing_before f start p m top _ s l (record_at f p) refl d hd z (fault_is _ z (sym x ∙ numbers))

pub ruleset seventh_ways = (placed_five, placed_tag, at_bounded, at_right, at_in, at_word, base_word, base_small, key_comes, key_kind, key_twice, links_twice, record_right, arith)

-- `admit`: by the record that the skeleton found at p
module _ (f : List ℕ) (start p m top : ℕ) (l : p < length f) (s : Standing f start p m top (whole_from f start)) (q : Result Head Broken) (eq : q ≡ record_at f p)
    (t : List ℕ) (w : ℕ) where
  pub admit_refused : (b : Broken) → q ≡ Err b → (r : Result (ℕ × ℕ) Fault) → IsErrAnd r (λ y. y ≡ fault (number_of b) 0 0) → Admitted f start p m top t w r
  unfolding Admitted
  admit_refused b y r er =
      let z = err_from_is_err_and r er in
      rw (z.1, z.2) (standing_refused f start p m top _ s l q eq b y)

  module _ (d : Head) (y : q ≡ Ok d) where
    pub admit_there : record_at f p ≡ Ok d
    admit_there = sym eq ∙ y

    pub admit_stopped : (z : Fault) → Went f start p d.len m top t w (Err z) → Admitted f start p m top t w (Err z)
    unfolding Went Admitted
    admit_stopped z e = e

    pub admit_on : (key : ℕ) → Went f start p d.len m top t w (Ok key) → Admitted f start p m top t w (Ok (d.len, key))
    unfolding Admitted
    admit_on key e =
        let g = right f p q eq d y in
        let n = g.long in
        (omega arith, g.inside, e)

pub ruleset admit_ways = (at_bounded, at_right, at_in, at_word, four_passed, admit_there, arith)

-- ---- record after record

no_keys : (f : List ℕ) (p : ℕ) → length f ≤ p → length (keys_from f p) ≡ 0
unfolding keys_from each
no_keys f p h = rw (records_over f p h)

-- the larger of two numbers, as the rules have it
max_is : (a b : ℕ) → max a b ≡ larger_of a b
max_is a b = by_test (λ (n : ℕ). max a b ≡ n) (ltb a b) b a (λ e. let h = ltb-true a b e in omega arith) (λ e. let h = ltb-false a b e in omega arith)

module _ (f : List ℕ) (start p m top : ℕ) (s : Standing f start p m top (whole_from f start)) where
  -- at the end of the file all records have been counted
  all_counted : length f ≤ p → m ≤ length (keys_from f start) → m ≡ length (keys_from f start)
  all_counted h e =
      let k : length (keys_from f start) - m ≡ length (keys_from f p) = sym (length-drop m (keys_from f start)) ∙ ap length s.rest in
      let z = no_keys f p h in
      omega arith

  pub walk_over : (t : List ℕ) → Once f start m top t → length f ≤ p → Ok m ≡ walked_by (length (keys_from f start)) (whole_from f start)
  unfolding walked_by
  walk_over t o h =
      let x : done tt ≡ whole_from f start = standing_over f start p m top _ s h in
      rw (← x) (ap (λ (n : ℕ). Ok n) (all_counted h o.known.enough))

  module _ (t' : List ℕ) (w' : ℕ) (r : Result (ℕ × ℕ) Fault) (a : Admitted f start p m top t' w' r) where
    pub walk_stopped : (x : Fault) → r ≡ Err x → Err (refusal (m + 4) x) ≡ walked_by (length (keys_from f start)) (whole_from f start)
    unfolding walked_by Admitted
    walk_stopped x y = let z : refused 1 (m + 4) x ≡ whole_from f start = rw y at a in rw (← z)

    module _ (len key : ℕ) (y : r ≡ Ok (len, key)) where
      there : (0 < len) × (p + len ≤ length f) × Went f start p len m top t' w' (Ok key)
      unfolding Admitted
      there = rw y at a

      pub walk_falls : length f - (p + len) < length f - p
      walk_falls = omega (arith, there.0, there.1)

      pub walk_in : p + len ≤ length f
      walk_in = there.1

      pub walk_word : length f ≤ 16777216 → p + len < 2 ^ 64
      walk_word g = omega (arith, there.1)

      pub count_word : m ≤ p → length f ≤ 16777216 → m + 1 < 2 ^ 64
      count_word c g = omega (arith, there.1)

      pub walk_counts : m ≤ p → m + 1 ≤ p + len
      walk_counts c = omega (arith, there.0)

      module _ (top' : ℕ) (es : top' ≡ max top key) where
        et : top' ≡ larger_of top key
        et = es ∙ max_is top key

        went : Standing f start (p + len) (m + 1) (larger_of top key) (whole_from f start) × Once f start (m + 1) (larger_of top key) t' × Ahead f start (m + 1) w'
        unfolding Went
        went = there.2

        pub walk_standing : Standing f start (p + len) (m + 1) top' (whole_from f start)
        walk_standing = rw et went.0

        pub walk_once : Once f start (m + 1) top' t'
        walk_once = rw et went.1

        pub walk_ahead : Ahead f start (m + 1) w'
        walk_ahead = went.2

pub ruleset walk_turn = (walk_over, walk_word, count_word, walk_falls, walk_in, walk_counts, walk_stopped, walk_standing, walk_once, walk_ahead, arith)

-- before the first of them
pub walk_start : (f : List ℕ) (start : ℕ) → Standing f start start 0 0 (whole_from f start)
walk_start f start = standing_start f start (whole_from f start) refl

pub walk_map : (f : List ℕ) (start n : ℕ) → Once f start 0 0 (replicate n 0)
unfolding zeros
walk_map f start n = once_start f start n

-- a map that was emptied
pub walk_emptied : (f : List ℕ) (start n : ℕ) (t : List ℕ) → t ≡ zeros n → Once f start 0 0 t
unfolding zeros
walk_emptied f start n t e = rw e (walk_map f start n)
