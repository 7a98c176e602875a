-- The run of all acts of an update's field on the items of a forest is the forest's `edit`. Assumes nothing.
use mathlib.Core.Path.{◌≡◌, refl, sym, ap, ◌∙◌}
use mathlib.Core.List.{List, [], ◌∷◌, ◌++◌, append-nil}
use mathlib.Core.Logic.{⊎_elim}
use mathlib.Core.Bool.{Bool, true, false}
use Prim.Native.Nat.{ℕ, zero, suc, ◌+◌, ◌≤◌, ◌<◌}
use native.Mathlib.Numerals.{add-one}
use native.Mathlib.Omega.{arith}
use lib.ListN.{length, get_or}
use borrow.Author.Tests.{eq-eqb, ne_eqb}
use Rattle.std.specs.Prelude.{Result, Ok, Err}
use Rattle.base.specs.Choice.{pick}
use Rattle.base.specs.Check.{Check, ok, no, bind, refuse, pass, passed}
use Rattle.base.specs.declared.Fault.{Fault}
use Rattle.base.specs.Lists.{each}
use Rattle.base.proofs.CheckLaws.{bind_inv, ok_inj, refused}
use Rattle.skeleton.specs.Place.{between}
use Rattle.fields.specs.Table.{head_of, tuple_of}
use Rattle.fields.specs.Values.{Val}
use Rattle.fields.specs.Content.{fill}
use Rattle.fields.specs.declared.Format.TheVariants.{Attr}
use Rattle.fields.proofs.FieldLaws.{fill_list}
use Rattle.forest.specs.Forest.{Forest}
use Rattle.forest.specs.Rule.{all_taken}
use Rattle.forest.specs.Acts.{Acts, done, act, UTup, ActRun, act_of, acts_up_to, acts_of, deletes}
use Rattle.forest.specs.Edit.{edit}
use Rattle.forest.specs.Flat.{Item, flat, edit_flat}
use Rattle.forest.proofs.Numbers.{lt_or_le, eq_or_ne}
use Rattle.forest.proofs.CheckLaws.{no_same}
use Rattle.forest.proofs.FlatLaws.{s_end}
use Rattle.forest.proofs.Splice.{edit_splice}
use Rattle.rules.specs.Trees.{instruction_of, utup_of, attr_acts}
use Rattle.rules.specs.Modify.{act_attr}
use Rattle.tree.specs.Source.{past}
use Rattle.tree.proofs.TupleShape.{shape}
use Rattle.items.specs.Items.{u16, text_from, its}
use Rattle.items.specs.Tuples.{Tuples, tuples_to}
use Rattle.items.proofs.TupleLaws.{to_none, to_more, placed}
use Rattle.edits.specs.Read.{act_at, Reading, reading, read_at, kids_at}
use Rattle.edits.specs.Says.{Ran, RunSays}
use Rattle.edits.specs.Applied.{Outcome, Applied}
use Rattle.edits.proofs.ReadLaws.{read_end, read_other, read_step, kids_fewer, kids_delete, kids_other}

-- ---- the update's tuples

-- those from an offset up to e
abbrev utups_to : List ℕ → ℕ → ℕ → List UTup
utups_to u at e = each utup_of (tuples_to u at e)

-- the one at an offset
abbrev utup_at : List ℕ → ℕ → UTup
utup_at u at = record { natc = u16 u at; atix = u16 u (at + 2); paix = u16 u (at + 4); atin = instruction_of (get_or u (at + 6) 0); atvl = text_from u (at + 7) }

-- none at the end
utups_end : (u : List ℕ) (at e : ℕ) → e ≤ at → utups_to u at e ≡ []
unfolding each
utups_end u at e h = rw (to_none u at e h)

-- one and the others
utups_more : (u : List ℕ) (at e : ℕ) → at < e → utups_to u at e ≡ utup_at u at ∷ utups_to u (past u at) e
unfolding each utup_of
utups_more u at e h = rw (to_more u at e h)

-- ---- the reading of a run by the rules and by its bytes

-- an entry that was read: its children and the rest of its run
record Entered (t : UTup) (k : ℕ) (kids : Check ActRun) (on : ℕ → List UTup → Check ActRun) (r : ActRun) : Type 0 where
  first : ActRun
  rest : ActRun
  in_kids : kids ≡ ok first
  after : on first.place first.left ≡ ok rest
  is : r ≡ record { acts = act k t.atin t.natc t.atix t.atvl first.acts rest.acts; place = rest.place; left = rest.left }

-- so it was read
enter_inv : (t : UTup) (k : ℕ) (kids : Check ActRun) (on : ℕ → List UTup → Check ActRun) (r : ActRun) → act_of t k kids on ≡ ok r → Entered t k kids on r
unfolding act_of
enter_inv t k kids on r e =
    let (f, p, q) = bind_inv kids _ r e in
    let (g, x, y) = bind_inv (on f.place f.left) _ r q in
    record { first = f; rest = g; in_kids = p; after = x; is = sym (ok_inj _ _ y) }

-- the two readings came to the same
record Agree (u : List ℕ) (e : ℕ) (r : ActRun) (x : Reading) : Type 0 where
  acts : r.acts ≡ x.acts
  place : r.place ≡ x.place
  left : r.left ≡ utups_to u x.at e

-- where no act was read
agree_here : (u : List ℕ) (e at q : ℕ) (r : ActRun) → r ≡ record { acts = done; place = q; left = utups_to u at e } → Agree u e r (reading done at q)
agree_here u e at q r z = rw z (record { acts = refl; place = refl; left = refl })

-- no act is read below a delete
gone_none : (n k p : ℕ) (ts : List UTup) (r : ActRun) → acts_up_to n k p true ts ≡ ok r → r ≡ record { acts = done; place = k; left = ts }
unfolding acts_up_to
gone_none zero k p ts r e = sym (ok_inj _ _ e)
gone_none (suc n) k p [] r e = sym (ok_inj _ _ e)
gone_none (suc n) k p (t ∷ ts) r e =
    ⊎_elim
    (λ (z : t.paix ≡ p). refused (rw (eq-eqb t.paix p z) at e))
    (λ (z : t.paix ≡ p → ⊥). sym (ok_inj _ _ (rw (ne_eqb t.paix p z) at e)))
    (eq_or_ne t.paix p)

-- the acts on the children
kids_agree : (n : ℕ) (u : List ℕ) (e at q : ℕ) (r : ActRun) → acts_up_to n (suc q) q (deletes (instruction_of (get_or u (at + 6) 0))) (utups_to u (past u at) e) ≡ ok r
    → Agree u e r (read_at u e (past u at) q (q + 1)) → Agree u e r (kids_at u e at q)
unfolding instruction_of deletes
kids_agree n u e at q r h g =
    ⊎_elim
    (λ (z : get_or u (at + 6) 0 ≡ 2).
    rw (kids_delete u e at q z) (agree_here u e (past u at) (q + 1) r (rw (add-one q) (gone_none n (suc q) q (utups_to u (past u at) e) r (rw z at h)))))
    (λ (z : get_or u (at + 6) 0 ≡ 2 → ⊥). rw (kids_other u e at q z) g)
    (eq_or_ne (get_or u (at + 6) 0) 2)

-- an act, and the rest of its run
agree_more : (n : ℕ) (u : List ℕ) (e at p q : ℕ) (gone : Bool) (r : ActRun) → at < e → u16 u (at + 4) ≡ p → length (tuples_to u at e) ≤ suc n
    → ((a p' q' : ℕ) (g' : Bool) (r' : ActRun) → length (tuples_to u a e) ≤ n → acts_up_to n q' p' g' (utups_to u a e) ≡ ok r' → Agree u e r' (read_at u e a p' q'))
    → Entered (utup_at u at) q (acts_up_to n (suc q) q (deletes (instruction_of (get_or u (at + 6) 0))) (utups_to u (past u at) e)) (λ k ts. acts_up_to n k p gone ts) r
    → Agree u e r (read_at u e at p q)
unfolding act_at
agree_more n u e at p q gone r l z h ih i =
    let fewer = ap length (to_more u at e l) in
    let one : Agree u e i.first (kids_at u e at q) =
    kids_agree n u e at q i.first i.in_kids (ih (past u at) q (q + 1) (deletes (instruction_of (get_or u (at + 6) 0))) i.first (omega arith) (rw (add-one q) i.in_kids)) in
    let two : Agree u e i.rest (read_at u e (kids_at u e at q).at p (kids_at u e at q).place) =
    ih (kids_at u e at q).at p (kids_at u e at q).place gone i.rest (omega (arith, kids_fewer u e at q)) (rw (one.place, one.left) at i.after) in
    rw (i.is, read_step u e at p q l z) (record { acts = rw (one.acts, two.acts); place = two.place; left = two.left })

-- no parent of an act that was read is a delete
not_gone : {A : Type 0} (gone : Bool) (k : ℕ) (here : Check A) (r : A) → pick gone (refuse 6 k) here ≡ ok r → here ≡ ok r
not_gone true k here r e = refused e
not_gone false k here r e = e

-- by the tuples left
agree : (n : ℕ) (u : List ℕ) (e at p q : ℕ) (gone : Bool) (r : ActRun) → length (tuples_to u at e) ≤ n → acts_up_to n q p gone (utups_to u at e) ≡ ok r → Agree u e r (read_at u e at p q)
unfolding acts_up_to
agree zero u e at p q gone r h x =
    let l : e ≤ at = ⊎_elim (λ (y : at < e). absurd (omega (arith, ap length (to_more u at e y)))) (λ (y : e ≤ at). y) (lt_or_le at e) in
    rw (read_end u e at p q l) (agree_here u e at q r (sym (ok_inj _ _ x)))
agree (suc n) u e at p q gone r h x =
    ⊎_elim
    (λ (l : at < e).
    let x' : acts_up_to (suc n) q p gone (utup_at u at ∷ utups_to u (past u at) e) ≡ ok r = rw (utups_more u at e l) at x in
    ⊎_elim
    (λ (z : u16 u (at + 4) ≡ p).
    agree_more n u e at p q gone r l z h (λ a p' q' g' r' k y. agree n u e a p' q' g' r' k y) (enter_inv _ _ _ _ r (not_gone gone q _ r (rw (eq-eqb (u16 u (at + 4)) p z) at x'))))
    (λ (z : u16 u (at + 4) ≡ p → ⊥). rw (read_other u e at p q l z) (agree_here u e at q r (rw (utups_more u at e l) (sym (ok_inj _ _ (rw (ne_eqb (u16 u (at + 4)) p z) at x'))))))
    (eq_or_ne (u16 u (at + 4)) p))
    (λ (l : e ≤ at). rw (read_end u e at p q l) (agree_here u e at q r (rw (utups_end u at e l) (sym (ok_inj _ _ (rw (utups_end u at e l) at x))))))
    (lt_or_le at e)

-- every tuple was taken
taken_inv : (us vs : Acts) (k : ℕ) (ts : List UTup) → all_taken us k ts ≡ ok vs → us ≡ vs
unfolding all_taken
taken_inv us vs k [] e = ok_inj _ _ e
taken_inv us vs k (t ∷ ts) e = refused e

-- as many tuples as values
each_length : (vs : List (List Val)) → length vs ≤ length (each utup_of vs)
unfolding each
each_length [] = omega arith
each_length (v ∷ vs) = omega (arith, each_length vs)

-- the acts of the field are those in its bytes
read_update_lem : (u : List ℕ) (at e : ℕ) (us : Acts) → acts_of (utups_to u at e) ≡ ok us → (read_at u e at 0 1).acts ≡ us
unfolding acts_of
read_update_lem u at e us h =
    let (r, x, y) = bind_inv (acts_up_to (length (utups_to u at e)) 1 0 false (utups_to u at e)) _ us h in
    sym (agree (length (utups_to u at e)) u e at 0 1 false r (each_length (tuples_to u at e)) x).acts ∙ taken_inv r.acts us _ r.left y

-- ---- the forest

-- nothing follows the forest at the top
top : (f : Forest) (us : Acts) → edit_flat 0 false (flat 0 f) us ≡ bind (edit false f us) (λ g. ok (flat 0 g))
unfolding bind
top f us = ap (λ (l : List Item). edit_flat 0 false l us) (sym (append-nil (flat 0 f))) ∙ edit_splice 0 false f [] us s_end ∙ go (edit false f us)
  where
    go : (c : Check Forest) → bind c (λ g. ok (flat 0 g ++ [])) ≡ bind c (λ g. ok (flat 0 g))
    go (ok g) = ap ok (append-nil (flat 0 g))
    go (no n) = refl

-- an edit that was refused
top_no : (c : Check Forest) (x : Fault) → bind c (λ g. ok (flat 0 g)) ≡ no x → c ≡ no x
unfolding bind
top_no (ok g) x e = refused (sym e)
top_no (no f) x e = ap no (no_same e)

-- an edit that was done
top_ok : (c : Check Forest) (l : List Item) → bind c (λ g. ok (flat 0 g)) ≡ ok l → (g : Forest) × (c ≡ ok g) × (l ≡ flat 0 g)
unfolding bind
top_ok (ok g) l e = (g, refl, sym (ok_inj _ _ e))
top_ok (no f) l e = absurd (let z : ◌≡◌ {A = ℕ} 0 1 = cc in omega arith)

-- ---- the field

module _ (u : List ℕ) (at e : ℕ) (h : at ≤ e) (l : e ≤ length u) (filled : fill (head_of Attr) (tuple_of Attr) (between u at e) ≡ true) where
  -- the field's tuples in the slice
  pub acts_tuples : Tuples u e at
  unfolding head_of tuple_of
  acts_tuples = (placed u at e h l 1 3 (fill_list (shape 1 3) (between u at e) filled)).0

  -- and its acts
  acts_same : attr_acts (between u at e) ≡ acts_of (utups_to u at e)
  unfolding head_of tuple_of attr_acts
  acts_same = ap (λ (vs : List (List Val)). acts_of (each utup_of vs)) (placed u at e h l 1 3 (fill_list (shape 1 3) (between u at e) filled)).1

  module _ (stands : passed (attr_acts (between u at e)) ≡ pass) (w : List ℕ) (n : ℕ) (v : List ℕ) (r : Result (ℕ × ℕ × ℕ) Fault) (said : (s : List ℕ) → RunSays s u e at 0 1 w n 0 0 false v r) where
    -- the edit of the forest by the acts that were read
    by_acts : (f : Forest) → (us : Acts) × (act_attr (between u at e) f ≡ edit false f us) × ((read_at u e at 0 1).acts ≡ us)
    unfolding passed bind act_attr
    by_acts f =
        let (us, q, z) = bind_inv (attr_acts (between u at e)) _ _ stands in
        (us, ap (λ (c : Check Acts). bind c (λ x. edit false f x)) q, read_update_lem u at e us (sym acts_same ∙ q))

    -- it was refused
    pub applied_no : (f : Fault) → r ≡ Err f → Applied u at e w n v (Err f)
    unfolding RunSays Outcome
    applied_no g x =
        record {
          is = λ s f y.
              let (us, same, a) = by_acts f in
              same ∙ top_no (edit false f us) g (sym (top f us) ∙ rw (y, a) at (rw x at (said s)));
          size = λ m z. absurd (let y : ◌≡◌ {A = ℕ} 0 1 = cc in omega arith);
        }

    -- it was done
    pub applied_done : (t : ℕ × ℕ × ℕ) → r ≡ Ok t → Applied u at e w n v (Ok t.2)
    unfolding RunSays Outcome
    applied_done t x =
        let m : ℕ = t.2 in
        let ran : (s : List ℕ) → Ran s u e at 0 1 w n 0 0 false v t.0 t.1 t.2 = λ s. rw x at (said s) in
        record {
          is = λ s f y.
              let (us, same, b) = by_acts f in
              let (g, c, d) = top_ok (edit false f us) (its s u v 0 m) (sym (top f us) ∙ rw (y, b) at (ran s).is) in
              (g, same ∙ c, d);
          size = λ m' z. let y : m ≡ m' = cc in omega (arith, (ran []).size);
        }
