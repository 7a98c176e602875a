-- The tuples of an update's ATTR as acts. PAIX obeys the tree rule over these tuples, and no parent is a delete tuple; nothing more is tested.
use Rattle.std.specs.Prelude.{List, [], ◌∷◌, Bool, true, false, ℕ, zero, suc, length, eqb}
use Rattle.base.specs.Choice.{pick}
use Rattle.base.specs.Check.{Check, ok, bind, refuse}
use Rattle.forest.specs.Rule.{all_taken}

-- what an instruction, ATIN, does
pub data Act : Type 0 where
  insert : Act
  delete : Act
  modify : Act

-- a tuple of an update's ATTR: code, index, parent, instruction, value
pub record UTup : Type 0 where
  pub natc : ℕ
  pub atix : ℕ
  pub paix : ℕ
  pub atin : Act
  pub atvl : List ℕ

-- a run of acts: the first one's place, instruction, code, index, value and run of acts on its children, and then the rest of the run
pub data Acts : Type 0 where
  done : Acts
  act : ℕ → Act → ℕ → ℕ → List ℕ → Acts → Acts → Acts

-- it is a delete
unfoldable pub deletes : Act → Bool
deletes insert = false
deletes modify = false
deletes delete = true

-- a run that was read: its acts, the next place and the tuples left
pub record ActRun : Type 0 where
  pub acts : Acts
  pub place : ℕ
  pub left : List UTup

-- the act of the tuple at place k, its run of children, and then the rest of the run that it stands in
unfoldable pub act_of : UTup → ℕ → Check ActRun → (ℕ → List UTup → Check ActRun) → Check ActRun
act_of t k kids rest =
    bind kids (λ r. bind (rest r.place r.left) (λ s.
    ok (record { acts = act k t.atin t.natc t.atix t.atvl r.acts s.acts; place = s.place; left = s.left })))

-- the run of parent p from place k on, of at most n acts; gone: that parent is a delete, so that it has no child; a tuple that breaks the rule is 6
unfoldable pub acts_up_to : ℕ → ℕ → ℕ → Bool → List UTup → Check ActRun
acts_up_to zero k p gone ts = ok (record { acts = done; place = k; left = ts })
acts_up_to (suc n) k p gone [] = ok (record { acts = done; place = k; left = [] })
acts_up_to (suc n) k p gone (t ∷ ts) =
    let here = act_of t k (acts_up_to n (suc k) k (deletes t.atin) ts) (λ k' ts'. acts_up_to n k' p gone ts') in
    let child = pick gone (refuse 6 k) here in
    pick (eqb t.paix p) child (ok (record { acts = done; place = k; left = t ∷ ts }))

-- the acts of an update's tuples, else 6 at the first that breaks the rule
unfoldable pub acts_of : List UTup → Check Acts
acts_of ts = bind (acts_up_to (length ts) 1 0 false ts) (λ r. all_taken r.acts r.place r.left)
