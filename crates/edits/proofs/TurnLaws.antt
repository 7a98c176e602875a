-- One act with its children, and the run of acts of one parent, in the words of the code. Assumes nothing.
use mathlib.Core.Path.{◌≡◌, refl, sym, ap, ◌∙◌}
use mathlib.Core.List.{List, []}
use mathlib.Core.Bool.{Bool}
use Prim.Native.Nat.{ℕ, ◌+◌, ◌-◌, ◌*◌, ◌≤◌, ◌<◌}
use native.Mathlib.Omega.{arith}
use lib.ListN.{length}
use lib.Dec.{ltb}
use Rattle.std.specs.Prelude.{Result, Ok, Err}
use Rattle.base.specs.Check.{no, bind, fault}
use Rattle.base.specs.declared.Fault.{Fault}
use Rattle.forest.specs.Forest.{valued}
use Rattle.forest.specs.Acts.{Acts, done}
use Rattle.forest.specs.Flat.{after, edit_flat}
use Rattle.tree.specs.Source.{past}
use Rattle.tree.proofs.CountLaws.{past_above}
use Rattle.items.specs.Items.{u16, text_from, its, Same}
use Rattle.items.specs.Tuples.{Tuples}
use Rattle.items.proofs.ItemLaws.{its_split, same_its, same_trans, same_refl}
use Rattle.items.proofs.TupleLaws.{tuples_within}
use Rattle.edits.specs.declared.single.Deed.{Deed}
use Rattle.edits.specs.declared.single.Deed.TheVariants.{Not, Gone, Lead}
use Rattle.edits.specs.Read.{act_at, Reading, reading, read_at, kids_at}
use Rattle.edits.specs.Says.{Went, Led, DeedSays, Acted, ActSays, RunSays}
use Rattle.edits.proofs.ReadLaws.{valued_text, read_end, read_other, read_step, kids_forward, kids_past, kids_delete, kids_other}

-- ---- one act, and the acts on its children

module _ (u : List ℕ) (e at q : ℕ) (w : List ℕ) (n start d : ℕ) (barren : Bool) where
  -- the act was refused
  pub act_refused : (s v : List ℕ) (P : Deed) (k : ℕ) → DeedSays s u at q w n start d barren v P → P ≡ Not k → ActSays s u e at q w n start d barren v (Err (fault k 0 q))
  unfolding DeedSays ActSays
  act_refused s v P k p x rest = (rw x at p) (kids_at u e at q).acts rest

  -- a delete was done
  pub act_gone : (s v : List ℕ) (P : Deed) (m a : ℕ) → DeedSays s u at q w n start d barren v P → P ≡ Gone m → a ≡ past u at → past u at ≤ e → ActSays s u e at q w n start d barren v (Ok (a, q + 1, m))
  unfolding DeedSays ActSays
  act_gone s v P m a p x ea h =
      let g : Went s u at q w n start d barren v m = rw x at p in
      let k = kids_delete u e at q g.kind in
      record {
        is = λ rest. g.is (kids_at u e at q).acts rest;
        to = rw (k, ea);
        place = rw k;
        kept = g.kept;
        room = g.room;
        size = omega (arith, past_above u at, g.size);
      }

  -- an insert or a modify was done
  pub act_led : (s v : List ℕ) (P : Deed) (i m : ℕ) → DeedSays s u at q w n start d barren v P → P ≡ Lead i m → Led s u at q w n start d barren v i m
  unfolding DeedSays
  act_led s v P i m p x = rw x at p

  -- and then the acts on its children
  pub act_lead : (s v z : List ℕ) (i m a : ℕ) (full : Bool) (r : Result (ℕ × ℕ × ℕ) Fault) → Led s u at q w n start d barren v i m → a ≡ past u at → past u at ≤ e → full ≡ ltb (at + 8) a
      → RunSays s u e a q (q + 1) v m (i + 1) (d + 1) full z r → ActSays s u e at q w n start d barren z r
  unfolding RunSays ActSays bind after
  act_lead s v z i m a full (Err f) g ea h ef t = λ rest.
      let k₁ = kids_other u e at q g.kind in
      let fv : full ≡ valued (text_from u (at + 7)) = ef ∙ rw (ea, valued_text u at) in
      g.is (kids_at u e at q).acts rest ∙ rw (k₁, ← fv, ← ea, t)
  act_lead s v z i m a full (Ok r) g ea h ef t =
      let k₁ = kids_other u e at q g.kind in
      let f : full ≡ valued (text_from u (at + 7)) = ef ∙ rw (ea, valued_text u at) in
      let mid : its s u z start (i + 1) ≡ its s u v start (i + 1) = same_its s u v z start (i + 1) (8 * (i + 1)) (omega (arith, g.low)) (omega arith) t.kept in
      record {
        is = λ rest. g.is (kids_at u e at q).acts rest ∙ rw (k₁, ← f, ← ea, t.is, its_split s u z start (i + 1) r.2 (omega (arith, g.low)) t.room, mid);
        to = t.to ∙ rw (k₁, ea);
        place = t.place ∙ rw (k₁, ea);
        kept = same_trans w v z (8 * start) (8 * (i + 1)) (omega (arith, g.low)) g.kept t.kept;
        room = omega (arith, g.low, t.room);
        size = omega (arith, t.size, g.size, past_above u at);
      }

-- ---- the loop over the acts of one parent

-- a is the offset of the next tuple, r its place, m how many items there are: what is still to be done of them is what is left of the whole
pub record ActsAt (u : List ℕ) (e at p q : ℕ) (w₀ : List ℕ) (n₀ start d : ℕ) (barren : Bool) (w : List ℕ) (a r m : ℕ) : Type 0 where
  pub whole : Tuples u e a
  pub is : (s : List ℕ) → edit_flat d barren (its s u w₀ start n₀) (read_at u e at p q).acts ≡ edit_flat d barren (its s u w start m) (read_at u e a p r).acts
  pub to : (read_at u e a p r).at ≡ (read_at u e at p q).at
  pub place : (read_at u e a p r).place ≡ (read_at u e at p q).place
  pub kept : Same w₀ w (8 * start)
  pub room : start ≤ m
  pub size : 8 * m + (e - a) ≤ 8 * n₀ + (e - at)
  pub long : length w ≡ length w₀
  pub slow : r ≤ a + 1
  pub on : at ≤ a

module _ (u : List ℕ) (e at p q : ℕ) (w₀ : List ℕ) (n₀ start d : ℕ) (barren : Bool) where
  -- before the first tuple
  pub acts_start : Tuples u e at → start ≤ n₀ → q ≤ at + 1 → ActsAt u e at p q w₀ n₀ start d barren w₀ at q n₀
  acts_start t h l =
      record { whole = t; is = λ s. refl; to = refl; place = refl; kept = same_refl w₀ (8 * start); room = h; size = omega arith; long = refl; slow = l; on = omega arith }

  module _ (w : List ℕ) (a r m : ℕ) (l : ActsAt u e at p q w₀ n₀ start d barren w a r m) where
    -- no tuple of the parent follows
    acts_stop : (s : List ℕ) → read_at u e a p r ≡ reading done a r → RunSays s u e at p q w₀ n₀ start d barren w (Ok (a, r, m))
    unfolding RunSays edit_flat
    acts_stop s x =
        record { is = l.is s ∙ rw x; to = (rw x at l.to); place = (rw x at l.place); kept = l.kept; room = l.room; size = l.size }

    -- no tuple is left
    pub acts_end : (s : List ℕ) → e ≤ a → RunSays s u e at p q w₀ n₀ start d barren w (Ok (a, r, m))
    acts_end s h = acts_stop s (read_end u e a p r h)

    -- the next tuple has another parent
    pub acts_other : (s : List ℕ) → a < e → (u16 u (a + 4) ≡ p → ⊥) → RunSays s u e at p q w₀ n₀ start d barren w (Ok (a, r, m))
    acts_other s h z = acts_stop s (read_other u e a p r h z)

    -- the act of the next tuple was done
    module _ (h : a < e) (z : u16 u (a + 4) ≡ p) (v : List ℕ) (A : Result (ℕ × ℕ × ℕ) Fault) (one : (s : List ℕ) → ActSays s u e a r w m start d barren v A) where
      -- or refused
      pub acts_no : (s : List ℕ) (f : Fault) → A ≡ Err f → RunSays s u e at p q w₀ n₀ start d barren v (Err f)
      unfolding RunSays ActSays
      acts_no s f x =
          let o : (rest : Acts) → edit_flat d barren (its s u w start m) (act_at u a r (kids_at u e a r).acts rest) ≡ no f = rw x at (one s) in
          l.is s ∙ rw (read_step u e a p r h z) (o _)

      -- what it came to
      acted : (t : ℕ × ℕ × ℕ) → A ≡ Ok t → (s : List ℕ) → Acted s u e a r w m start d barren v t.0 t.1 t.2
      unfolding ActSays
      acted t eq s = rw eq at (one s)

      -- it leads forward, inside the field
      pub acts_past : (t : ℕ × ℕ × ℕ) → A ≡ Ok t → (a + 8 ≤ t.0) × (t.0 ≤ e)
      acts_past t eq =
          let o = acted t eq [] in
          let f = o.to in
          (omega (arith, kids_past u e a r), omega (arith, tuples_within u e (kids_at u e a r).at ((kids_forward u e a r h).whole l.whole)))

      -- so the loop goes on
      pub acts_turn : (t : ℕ × ℕ × ℕ) → A ≡ Ok t → length v ≡ length w → ActsAt u e at p q w₀ n₀ start d barren v t.0 t.1 t.2
      acts_turn t eq len =
          let o = acted t eq in
          let mv = kids_forward u e a r h in
          let to₁ : t.0 ≡ (kids_at u e a r).at = (o []).to in
          let pl₁ : t.1 ≡ (kids_at u e a r).place = (o []).place in
          let st = read_step u e a p r h z in
          record {
            whole = rw to₁ (mv.whole l.whole);
            is = λ s. l.is s ∙ rw (st, to₁, pl₁) ((o s).is _);
            to = rw (to₁, pl₁) (ap (λ (t : Reading). t.at) (sym st) ∙ l.to);
            place = rw (to₁, pl₁) (ap (λ (t : Reading). t.place) (sym st) ∙ l.place);
            kept = same_trans w₀ w v (8 * start) (8 * start) (omega arith) l.kept (o []).kept;
            room = (o []).room;
            size = omega (arith, l.size, (o []).size);
            long = len ∙ l.long;
            slow = omega (arith, mv.slow, l.slow, to₁, pl₁);
            on = omega (arith, acts_past t eq, l.on);
          }
