-- Tuples that have the index that is due to them, and what a book of codes with a tally for each tells of it.
use Rattle.std.specs.Prelude.{◌≡◌, List, Bool, true, ℕ, ◌+◌, ◌*◌, ◌≤◌, ◌<◌, get_or}
use Rattle.base.specs.Choice.{pick, either}
use Rattle.book.specs.Book.{page_of, written}
use Rattle.tree.specs.Source.{two, past, count}
use Rattle.tree.specs.Known.{Whole, Reach}
use Rattle.tree.specs.declared.due.Block.{Block}

-- the tuple at an offset has the index that is due to it
abbrev pub Due : List ℕ → ℕ → Type 0
Due f at = two f (at + 2) ≡ count f 0 at (two f at) (two f (at + 4)) + 1

-- each tuple before an offset has
unfoldable pub AllDue : List ℕ → ℕ → Type 0
AllDue f e = (at : ℕ) → Reach f 0 at → at < e → Due f at

-- an index that is due, where it is asked for or where it is sure that each tuple has its own; else none is, which is 0
unfoldable pub due_for : Bool → Bool → ℕ → ℕ
due_for sure whole n = pick (either sure whole) n 0

-- code c and parent p in one number
abbrev pub keyed : ℕ → ℕ → ℕ
keyed c p = p * 65536 + c

-- of each code and parent that the book has, the tally is how many tuples before an offset have them
unfoldable pub Tallied : List ℕ → List ℕ → List ℕ → ℕ → Type 0
Tallied f b t at = (c p : ℕ) → c < 65536 → written b (keyed c p) ≡ true → get_or t (page_of b (keyed c p)) 0 ≡ count f 0 at c p

-- what is known behind the tuple at an offset, whose index was perhaps asked for
pub record Joins (f b u : List ℕ) (at : ℕ) (asked : Type 0) : Type 0 where
  pub tallied : Tallied f b u (past f at)
  pub due : asked → Due f at

-- a block of tuples from an offset on: at least one, and no more than so many
pub record Blocked (f : List ℕ) (x room : ℕ) (g : Block) : Type 0 where
  pub whole : Whole f g.behind
  pub on : x < g.behind
  pub some : 0 < g.count
  pub few : g.count ≤ room
