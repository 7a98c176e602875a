-- The tuples of an attribute field as a source of entries: what is seen of the tuple at an offset.
use Rattle.std.specs.Prelude.{Bool, not, List, ℕ, zero, suc, ◌+◌, ◌-◌, length, get_or, drop, ltb, eqb, Result, Ok, Err}
use Rattle.base.specs.Choice.{pick, either}
use Rattle.base.specs.Check.{Check, ok, no, bind, refuse}
use Rattle.fields.specs.Bytes.{le, run}
use Rattle.forest.specs.Reader.{Reader, faulty, read_run}

-- the number of two bytes at an offset
abbrev pub two : List ℕ → ℕ → ℕ
two b at = le 2 (drop at b)

-- behind the tuple at an offset: three numbers and an instruction, 7 bytes, then the value and the byte that ends it
unfoldable pub past : List ℕ → ℕ → ℕ
past b at = at + 7 + run (drop (at + 7) b) + 1

-- ---- the earlier entries with the same code and parent

-- 1 where the tuple at an offset has code c and parent p
unfoldable pub hit : List ℕ → ℕ → ℕ → ℕ → ℕ
hit b at c p = pick (eqb (two b at) c) (pick (eqb (two b (at + 4)) p) 1 0) 0

-- how many of at most n tuples from offset i up to e have code c and parent p
unfoldable pub count_up_to : ℕ → List ℕ → ℕ → ℕ → ℕ → ℕ → ℕ
count_up_to zero b i e c p = 0
count_up_to (suc n) b i e c p = pick (ltb i e) (hit b i c p + count_up_to n b (past b i) e c p) 0

-- how many tuples from offset i up to e have code c and parent p
unfoldable pub count : List ℕ → ℕ → ℕ → ℕ → ℕ → ℕ
count b i e c p = count_up_to (e - i) b i e c p

-- ---- the tests

-- its index is one more than the earlier entries with its code and parent; whole: the whole rule is asked for, not only parents
unfoldable pub numbered : List ℕ → Bool → ℕ → Bool
numbered b whole at = either (not whole) (eqb (two b (at + 2)) (count b 0 at (two b at) (two b (at + 4)) + 1))

-- it takes no child: it has a value, or, where only parents are asked for, it is a delete
unfoldable pub closed : List ℕ → Bool → ℕ → Bool
closed b whole at = pick whole (not (eqb (get_or b (at + 7) 0) 31)) (eqb (get_or b (at + 6) 0) 2)

-- ---- the source

-- an offset, and the place of the tuple there
pub record Spot : Type 0 where
  pub offset : ℕ
  pub place : ℕ

-- such a spot
abbrev pub spot : ℕ → ℕ → Spot
spot at k = record { offset = at; place = k }

-- the tuples of a field as a source of entries; what a run comes to is not asked
abbrev pub tuples_in : List ℕ → Bool → Reader Spot (Unit {0})
tuples_in b whole = record {
  here = λ s. ltb s.offset (length b);
  parent = λ s. two b (s.offset + 4);
  place = λ s. s.place;
  right = λ s. numbered b whole s.offset;
  shuts = λ s. closed b whole s.offset;
  next = λ s. spot (past b s.offset) (s.place + 1);
  rest = λ s. length b - s.offset;
  none = tt;
  one = λ s f g. tt;
}

-- what the code answers, as a test: where the walk ended, or 6 at the faulty tuple
unfoldable pub said_by : Result (ℕ × ℕ) ℕ → Check Spot
said_by (Err k) = refuse 6 k
said_by (Ok w) = ok (spot w.0 w.1)

-- the run of parent p from offset at on, the first of place k, as the rules read it: where it ends; shut: that parent takes no child
unfoldable pub run_at : List ℕ → Bool → ℕ → ℕ → ℕ → Bool → Check Spot
run_at b whole at p k shut = bind (read_run (tuples_in b whole) p shut (spot at k)) (λ r. ok r.end)

-- the entry at an offset, of place k, and its run of children
unfoldable pub entry_at : List ℕ → Bool → ℕ → ℕ → Bool → Check Spot
entry_at b whole at k shut = pick (faulty (tuples_in b whole) shut (spot at k)) (refuse 6 k) (run_at b whole (past b at) k (k + 1) (closed b whole at))

-- where the run at the top ended: 0 at the end of the bytes, else the place of the first tuple left; or the place of the faulty tuple
unfoldable pub remains : ℕ → Check Spot → ℕ
remains n (ok s) = pick (ltb s.offset n) s.place 0
remains n (no f) = f.tuple
