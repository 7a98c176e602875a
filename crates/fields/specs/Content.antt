-- What a field holds: a head, and then tuples to its end.
use Rattle.std.specs.Prelude.{ℕ, ◌+◌, Bool, true, false, List, ◌++◌, length, drop, ltb, eqb, Result, Ok, Err}
use Rattle.std.proofs.Math.Option.{Option, none, some}
use Rattle.base.specs.Choice.{pick}
use Rattle.base.specs.Lists.{empty}
use Rattle.base.specs.Walk.{Step, more, over, Got, walk}
use Rattle.fields.specs.Sizes.{on_size, sizes, amount}
use Rattle.fields.specs.Values.{Val, values, puts, put_all}
use Rattle.fields.specs.declared.Sub.{Sub}

-- ---- tuples

-- one step over tuples: no byte is left; or a tuple of at least one byte stands at the front; or none does, which is 5
unfoldable pub tuple_step : List Sub → List ℕ → Step (List ℕ) (List Val)
tuple_step t l =
    let here = on_size (sizes t l) (over 5) (λ n. pick (ltb 0 n) (more (values t l) (drop n l)) (over 5)) in
    pick (empty l) (over 0) here

-- the tuples up to the first that does not stand, and 5, or all of them, and 0
unfoldable pub tuples : List Sub → List ℕ → Got (List Val)
tuples t l = walk (tuple_step t) length l

-- the values of the tuples
unfoldable pub many : List Sub → List ℕ → List (List Val)
many t l = (tuples t l).items

-- k tuples and those of a walk counted: how many there are, or which is the first that does not stand
abbrev pub tallied : ℕ → Got (List Val) → Result ℕ ℕ
tallied k g = pick (eqb g.ending 0) (Ok (k + length g.items)) (Err (k + length g.items + 1))

-- the number that it refuses the field with: 5 where a tuple or the head does not stand
abbrev pub number_of : Result ℕ ℕ → ℕ
number_of (Ok n) = 0
number_of (Err k) = 5

-- the tuples counted, where k stand before the bytes
unfoldable pub tally : List Sub → List ℕ → ℕ → Result ℕ ℕ
tally t l k = tallied k (tuples t l)

-- ---- a field

-- the tuples of a field counted; 0 is the number of a head that does not stand
unfoldable pub tally_field : List Sub → List Sub → List ℕ → Result ℕ ℕ
tally_field h t l = on_size (sizes h l) (Err 0) (λ n. tally t (drop n l) 0)

-- every tuple stands
abbrev pub is_whole : Result ℕ ℕ → Bool
is_whole (Ok n) = true
is_whole (Err k) = false

-- the subfields fill the field, each within its range
unfoldable pub fill : List Sub → List Sub → List ℕ → Bool
fill h t l = is_whole (tally_field h t l)

-- the values of a head, and those of each tuple
pub record Content : Type 0 where
  pub head : List Val
  pub tuples : List (List Val)

-- the values of a field that its subfields fill
unfoldable pub content : List Sub → List Sub → List ℕ → Content
content h t l = record { head = values h l; tuples = many t (drop (amount (sizes h l)) l) }

-- the values of a field, if its subfields fill it
unfoldable pub decode : List Sub → List Sub → List ℕ → Option Content
decode h t l = pick (fill h t l) (some (content h t l)) none

-- the bytes of a field with these values
unfoldable pub encode : List Sub → List Sub → Content → List ℕ
encode h t c = puts h c.head ++ put_all t c.tuples
