-- A case, and whether the definitions answer it as the second program does. Assumes nothing.
use Prim.Native.Nat.{ℕ, ◌*◌, ◌%◌}
use mathlib.Core.Bool.{Bool, true}
use mathlib.Core.List.{List, [], ◌∷◌}
use lib.ListN.{length}
use lib.Bits.{bit_xor}
use Rattle.base.specs.Choice.{both}
use Rattle.base.specs.Keys.{same}
use Rattle.base.specs.Opened.{opened as base_opened}
use Rattle.rules.specs.Answers.{Output, read, write, update}
use Rattle.rules.specs.Listing.{listing}
use Rattle.rules.specs.declared.Answer.{Answer}
use Rattle.rules.specs.Opened.{opened as rules_opened}
use Rattle.skeleton.specs.Opened.{opened as skeleton_opened}
use Rattle.fields.specs.Opened.{opened as fields_opened}
use Rattle.forest.specs.Opened.{opened as forest_opened}

-- the hash FNV-1a of bytes, 64 bits, from h on
unfoldable pub fnv : ℕ → List ℕ → ℕ
fnv h [] = h
fnv h (b ∷ bs) = fnv (bit_xor b h * 0x100000001b3 % 0x10000000000000000) bs

-- and from its beginning
unfoldable pub hash : List ℕ → ℕ
hash bs = fnv 0xcbf29ce484222325 bs

-- a call, and the answer that is expected as a list of numbers
pub data Case : Type 0 where
  reads : List ℕ → List ℕ → Case  -- dataset
  writes : List ℕ → ℕ → List ℕ → Case  -- dataset, room
  updates : List ℕ → List ℕ → ℕ → ℕ → List ℕ → Case  -- dataset, update, room, workspace
  lists : List ℕ → List ℕ → Case  -- input

-- number, file, record, length, count, and the hash of the output slice
unfoldable pub shown : Answer → List ℕ → List ℕ
shown a out = a.number ∷ a.file ∷ a.rec ∷ a.length ∷ a.count ∷ hash out ∷ []

-- of an answer with its output slice
unfoldable pub shown_of : Output → List ℕ
shown_of o = shown o.answer o.out

-- length and hash of what is printed
unfoldable pub printed : List ℕ → List ℕ
printed out = length out ∷ hash out ∷ []

-- the definitions answer as expected
unfoldable pub agrees : Case → Bool
agrees (reads f want) = same (shown (read f) []) want
agrees (writes f room want) = same (shown_of (write f room)) want
agrees (updates f u room work want) = same (shown_of (update f u room work)) want
agrees (lists f want) = same (printed (listing f)) want

-- all of them
unfoldable pub all : List Case → Bool
all [] = true
all (c ∷ cs) = both (agrees c) (all cs)

-- all that a case computes with
unfoldable pub cases_opened : Unit {0}
unfolding base_opened skeleton_opened fields_opened forest_opened rules_opened fnv hash shown shown_of printed agrees all
cases_opened = tt
