-- A part of the pass over a result's records: from where some of them are left to where fewer are.
use Rattle.std.specs.Prelude.{ℕ, ◌+◌, ◌*◌, ◌≤◌, ◌<◌, ◌≡◌, true, List, length, Result, Ok, Err}
use Rattle.base.specs.Check.{Passed}
use Rattle.base.specs.declared.Fault.{Fault}
use Rattle.skeleton.specs.File.{records_from}
use Rattle.rules.specs.Associations.{marks}
use Rattle.rules.specs.Record.{Rec}
use Rattle.rules.specs.Written.{written_fields}
use Rattle.rules.specs.Outcome.{done, refused}
use Rattle.sequence.specs.Stream.{standing}
use Rattle.updates.specs.Acts.{chart}
use Rattle.updates.specs.Streamed.{result_records, result_references, refers_to}
use Rattle.stock.specs.Stock.{stock_from}
use Rattle.sorting.specs.Indices.{Beyond}
use Rattle.sorting.specs.declared.limits.Limits.{Limits}
use Rattle.composing.specs.Composing.{left_kinds, left_old, left_new, Composing}
use Rattle.lasting.specs.declared.Step.{Step}
use Rattle.lasting.specs.declared.Step.TheVariants.{Nothing, Loose, One}
use Rattle.result.specs.declared.pass.Progress.{Progress}

-- at most m records were made behind the third, and the next begins no later than where records of 99,999 bytes end, three before them and 33,554,432 bytes
unfoldable pub Within : ℕ → Progress → Type 0
Within m g = (g.made ≤ m) × (g.to ≤ 33854429 + 99999 * g.made)

-- where the pass is after a step
unfoldable pub pass_after : Step → Progress → ℕ → Result Progress ℕ
pass_after Nothing g next = Ok (record { to = g.to; made = g.made; next = next })
pass_after Loose g next = Err (g.made + 4)
pass_after (One to) g next = Ok (record { to = to; made = g.made + 1; next = next })

-- the same pass, to go on from another place
unfoldable pub pass_from : Result Progress ℕ → ℕ → Result Progress ℕ
pass_from (Err k) next = Err k
pass_from (Ok g) next = Ok (record { to = g.to; made = g.made; next = next })

-- the number of the refusal that the pass stopped at, 0 where it went on; it is one of the result, the third file
abbrev pub number_of : Result Progress ℕ → ℕ
number_of (Err k) = 11
number_of (Ok g) = 0

-- from g, where out was `before`, it wrote no further than where it went on to, and from behind the end of out on nothing
unfoldable pub Sparing : Progress → List ℕ → List ℕ → Result Progress ℕ → Type 0
Sparing g before out (Err k) = Unit {0}
Sparing g before out (Ok h) = (g.to ≤ h.to) × Beyond h.to before out × (length before < g.to → out ≡ before)

-- the dataset d from ds on, the update u from us on
module _ (d : List ℕ) (ds : ℕ) (u : List ℕ) (us : ℕ) where
  -- what is left from the kind with place q on
  abbrev pub kinds_left : ℕ → List Rec
  kinds_left q = left_kinds (stock_from d ds) (records_from u us).items q

  -- of kind q from the old record at p on
  abbrev pub old_left : ℕ → ℕ → List Rec
  old_left q p = left_old (stock_from d ds) (records_from u us).items q (stock_from d p)

  -- of kind q from the update record at p on
  abbrev pub new_left : ℕ → ℕ → List Rec
  new_left q p = left_new (stock_from d ds) (records_from u us).items q (records_from u p).items

  -- number 11, asked of a record of the result
  abbrev pub links_of : Rec → Passed
  links_of r = refers_to (standing chart (stock_from d ds) (records_from u us).items) (marks 1 (written_fields r))

  -- where a pass is sure that all that the result names stands, it does
  unfoldable pub Clear : Limits → Type 0
  Clear lim = lim.sure ≡ true → result_references (stock_from d ds) (records_from u us).items ≡ done tt

  -- the result where these records are left of it
  abbrev pub Made : List Rec → ℕ → ℕ → ℕ → List ℕ → List ℕ → Type 0
  Made left at made to before out = Composing links_of (result_records (stock_from d ds) (records_from u us).items) left at made to before out

  -- `left` was left at g, and out was `before` then. The pass stopped at a loose reference; or now `later` is left
  unfoldable pub Passing : List Rec → List Rec → Progress → List ℕ → List ℕ → Result Progress ℕ → Type 0
  Passing left later g before out (Err k) = (at : ℕ) (first : List ℕ) → Made left at g.made g.to first before
      → (x : Fault) × (x.number ≡ number_of (Err k)) × (result_references (stock_from d ds) (records_from u us).items ≡ refused 3 k x)
  Passing left later g before out (Ok h) = (at : ℕ) (first : List ℕ) → Made left at g.made g.to first before → Made later at h.made h.to first out

  -- it made so many at most
  unfoldable pub Few : ℕ → Progress → Result Progress ℕ → Type 0
  Few most g (Err k) = Unit {0}
  Few most g (Ok h) = Within (g.made + most) h

  -- the same, and that
  pub record Walked (left later : List Rec) (most : ℕ) (g : Progress) (before out : List ℕ) (r : Result Progress ℕ) : Type 0 where
    pub passing : Passing left later g before out r
    pub few : Few most g r
    pub spares : Sparing g before out r
