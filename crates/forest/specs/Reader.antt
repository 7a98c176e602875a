-- How entries are read from anything that has them one after the other, parents before children: from tuples as from bytes. An entry is
-- followed by its run of children, and a run is made of entries.
use Rattle.std.specs.Prelude.{Bool, not, ℕ, zero, suc, ◌<◌, ◌≡◌, true, eqb}
use Rattle.base.specs.Choice.{pick, both, either}
use Rattle.base.specs.Check.{Check, ok, bind, refuse}

-- what is seen at a state: whether an entry stands there, its parent and its place, whether it is rightly made, whether it takes no child,
-- the state behind it, how much is left; and what a run comes to, if it is empty, or by its first entry, that one's children and the rest
pub record Reader (S F : Type 0) : Type 0 where
  pub here : S → Bool
  pub parent : S → ℕ
  pub place : S → ℕ
  pub right : S → Bool
  pub shuts : S → Bool
  pub next : S → S
  pub rest : S → ℕ
  pub none : F
  pub one : S → F → F → F

-- a run that was read: what it came to, and the state behind it
pub record Read (S F : Type 0) : Type 0 where
  pub found : F
  pub end : S

-- an entry of parent p stands there
abbrev pub belongs : {S F : Type 0} → Reader S F → ℕ → S → Bool
belongs d p s = both (d.here s) (eqb (d.parent s) p)

-- an entry that must not stand there: its parent takes no child, or it is not rightly made
abbrev pub faulty : {S F : Type 0} → Reader S F → Bool → S → Bool
faulty d shut s = either shut (not (d.right s))

-- the entry at s, its run of children, and then the rest of the run that it stands in
unfoldable pub entry_then : {S F : Type 0} → Reader S F → S → Check (Read S F) → (S → Check (Read S F)) → Check (Read S F)
entry_then d s kids rest =
    bind kids (λ r. bind (rest r.end) (λ q. ok (record { found = d.one s r.found q.found; end = q.end })))

-- the run of parent p from s on, of at most n entries; shut: that parent takes no child; a faulty entry is 6
unfoldable pub read_up_to : {S F : Type 0} → Reader S F → ℕ → ℕ → Bool → S → Check (Read S F)
read_up_to d zero p shut s = ok (record { found = d.none; end = s })
read_up_to d (suc n) p shut s =
    let entry = entry_then d s (read_up_to d n (d.place s) (d.shuts s) (d.next s)) (λ t. read_up_to d n p shut t) in
    let member = pick (faulty d shut s) (refuse 6 (d.place s)) entry in
    pick (belongs d p s) member (ok (record { found = d.none; end = s }))

-- the run of parent p from s on
unfoldable pub read_run : {S F : Type 0} → Reader S F → ℕ → Bool → S → Check (Read S F)
read_run d p shut s = read_up_to d (d.rest s) p shut s

-- behind an entry less is left
abbrev pub Falls : {S F : Type 0} → Reader S F → Type 0
Falls {S} d = (s : S) → d.here s ≡ true → d.rest (d.next s) < d.rest s
