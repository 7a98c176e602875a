-- What the functions that apply an update's acts to the items promise, by the splices `edit_flat` of lists of items.
use Rattle.std.specs.Prelude.{◌≡◌, List, Bool, ℕ, ◌+◌, ◌-◌, ◌*◌, ◌≤◌, ◌<◌, get_or, Result, Ok, Err}
use Rattle.base.specs.Check.{ok, no, bind, refuse}
use Rattle.base.specs.declared.Fault.{Fault}
use Rattle.forest.specs.Forest.{valued}
use Rattle.forest.specs.Acts.{Acts}
use Rattle.forest.specs.Flat.{after, edit_flat}
use Rattle.items.specs.Items.{text_from, its, Same}
use Rattle.edits.specs.Read.{act_at, read_at, kids_at}
use Rattle.edits.specs.declared.single.Deed.{Deed}
use Rattle.edits.specs.declared.single.Deed.TheVariants.{Not, Gone, Lead}

-- ---- one act by itself, of the tuple at `at` of u, of place q, on the run of depth d that starts at `start` among the n items of w, which became v

-- a delete was done: m items are left
pub record Went (s u : List ℕ) (at q : ℕ) (w : List ℕ) (n start d : ℕ) (barren : Bool) (v : List ℕ) (m : ℕ) : Type 0 where
  pub is : (us rest : Acts) → edit_flat d barren (its s u w start n) (act_at u at q us rest) ≡ edit_flat d barren (its s u v start m) rest
  pub kind : get_or u (at + 6) 0 ≡ 2
  pub kept : Same w v (8 * start)
  pub room : start ≤ m
  pub size : m ≤ n

-- an insert or a modify was done at item i of m: the acts on its children come next
pub record Led (s u : List ℕ) (at q : ℕ) (w : List ℕ) (n start d : ℕ) (barren : Bool) (v : List ℕ) (i m : ℕ) : Type 0 where
  pub is : (us rest : Acts) → edit_flat d barren (its s u w start n) (act_at u at q us rest)
      ≡ bind (after (its s u v start (i + 1)) (edit_flat (d + 1) (valued (text_from u (at + 7))) (its s u v (i + 1) m) us)) (λ ts. edit_flat d barren ts rest)
  pub kind : get_or u (at + 6) 0 ≡ 2 → ⊥
  pub kept : Same w v (8 * start)
  pub low : start ≤ i
  pub high : i < m
  pub size : m ≤ n + 1

-- what it came to
unfoldable pub DeedSays : List ℕ → List ℕ → ℕ → ℕ → List ℕ → ℕ → ℕ → ℕ → Bool → List ℕ → Deed → Type 0
DeedSays s u at q w n start d barren v (Not k) = (us rest : Acts) → edit_flat d barren (its s u w start n) (act_at u at q us rest) ≡ refuse k q
DeedSays s u at q w n start d barren v (Gone m) = Went s u at q w n start d barren v m
DeedSays s u at q w n start d barren v (Lead i m) = Led s u at q w n start d barren v i m

-- ---- one act and the acts on its children, of the tuples up to e

-- they were done: the offset and place of the next tuple, and how many items there are
pub record Acted (s u : List ℕ) (e at q : ℕ) (w : List ℕ) (n start d : ℕ) (barren : Bool) (v : List ℕ) (a r m : ℕ) : Type 0 where
  pub is : (rest : Acts) → edit_flat d barren (its s u w start n) (act_at u at q (kids_at u e at q).acts rest) ≡ edit_flat d barren (its s u v start m) rest
  pub to : a ≡ (kids_at u e at q).at
  pub place : r ≡ (kids_at u e at q).place
  pub kept : Same w v (8 * start)
  pub room : start ≤ m
  pub size : 8 * m + (e - a) ≤ 8 * n + (e - at)

-- what they came to
unfoldable pub ActSays : List ℕ → List ℕ → ℕ → ℕ → ℕ → List ℕ → ℕ → ℕ → ℕ → Bool → List ℕ → Result (ℕ × ℕ × ℕ) Fault → Type 0
ActSays s u e at q w n start d barren v (Err f) = (rest : Acts) → edit_flat d barren (its s u w start n) (act_at u at q (kids_at u e at q).acts rest) ≡ no f
ActSays s u e at q w n start d barren v (Ok x) = Acted s u e at q w n start d barren v x.0 x.1 x.2

-- ---- the run of acts of parent p

-- it was done
pub record Ran (s u : List ℕ) (e at p q : ℕ) (w : List ℕ) (n start d : ℕ) (barren : Bool) (v : List ℕ) (a r m : ℕ) : Type 0 where
  pub is : edit_flat d barren (its s u w start n) (read_at u e at p q).acts ≡ ok (its s u v start m)
  pub to : a ≡ (read_at u e at p q).at
  pub place : r ≡ (read_at u e at p q).place
  pub kept : Same w v (8 * start)
  pub room : start ≤ m
  pub size : 8 * m + (e - a) ≤ 8 * n + (e - at)

-- what it came to
unfoldable pub RunSays : List ℕ → List ℕ → ℕ → ℕ → ℕ → ℕ → List ℕ → ℕ → ℕ → ℕ → Bool → List ℕ → Result (ℕ × ℕ × ℕ) Fault → Type 0
RunSays s u e at p q w n start d barren v (Err f) = edit_flat d barren (its s u w start n) (read_at u e at p q).acts ≡ no f
RunSays s u e at p q w n start d barren v (Ok x) = Ran s u e at p q w n start d barren v x.0 x.1 x.2
