-- Edits by place in a list of anything: the rules of COCC.
use Rattle.std.specs.Prelude.{ℕ, ◌+◌, ◌-◌, List, [], ◌++◌, length, take, drop, eqb, leb}
use Rattle.base.specs.Choice.{pick}
use Rattle.base.specs.Check.{Check, ok, refuse}

-- an instruction (COUI), a place from 1 (COIX), and a number of things (NCOR)
pub record Place : Type 0 where
  pub instruction : ℕ
  pub index : ℕ
  pub count : ℕ

-- a list after an edit with the things sent: insert (1) puts them before the place, 1 to n+1; modify (3) puts them for `count` things from the
-- place on, and delete (2) takes those away, all within the list; a place outside it is 9
unfoldable pub placed : {A : Type 0} → Place → List A → List A → Check (List A)
placed p new xs =
    let before = take (p.index - 1) xs in
    let from = drop (p.index - 1) xs in
    let behind = drop p.count from in
    let replaced = before ++ (pick (eqb p.instruction 2) [] new ++ behind) in
    let as-insert = pick (leb p.index (length xs + 1)) (ok (before ++ (new ++ from))) (refuse 9 0) in
    let as-other = pick (leb (p.index + p.count - 1) (length xs)) (ok replaced) (refuse 9 0) in
    pick (eqb p.instruction 1) as-insert as-other
