-- Laws of the record that begins at a byte. Assumes nothing.
use mathlib.Core.Path.{◌≡◌, refl, ap, ◌∙◌}
use mathlib.Core.Bool.{Bool, true, false}
use mathlib.Core.Option.{Option, some, none}
use mathlib.Core.List.{List, [], ◌∷◌}
use Prim.Native.Nat.{ℕ, ◌+◌, ◌/◌, ◌^◌, ◌≤◌, ◌<◌}
use native.Mathlib.Omega.{arith}
use lib.ListN.{length, get_or, drop}
use lib.Dec.{eqb, ltb}
use Rattle.std.specs.Prelude.{Result, Ok}
use Rattle.base.specs.Choice.{pick}
use Rattle.base.specs.Check.{ok, no, bind, fault, Passed, pass}
use Rattle.base.specs.Lists.{each}
use Rattle.base.specs.Walk.{Got}
use Rattle.base.proofs.CheckLaws.{refused, bind_inv, ok_inj}
use Rattle.skeleton.specs.File.{Field, records_from}
use Rattle.skeleton.specs.Place.{between, fields_at}
use Rattle.skeleton.specs.Record.{record_at}
use Rattle.skeleton.specs.declared.leader.Head.{Head}
use Rattle.skeleton.specs.declared.leader.Broken.{Broken}
use Rattle.skeleton.proofs.FileLaws.{records_more}
use Rattle.skeleton.proofs.RecordLaws.{right}
use Rattle.rules.specs.ByTag.{first_tag, front}
use Rattle.rules.specs.Kind.{kind_of, rank}
use Rattle.rules.specs.Grammar.{on_kind, fields_stand, ruin_byte, number4}
use Rattle.rules.specs.Content.{number5}
use Rattle.rules.specs.Trees.{number6}
use Rattle.rules.specs.Associations.{number7}
use Rattle.rules.specs.Record.{update_record}
use Rattle.rules.specs.declared.Kind.{Kind}
use Rattle.rules.specs.declared.Mode.{Mode}
use Rattle.rules.specs.declared.Mode.TheVariants.{InDataset, InUpdate}
use Rattle.updates.specs.Acts.{kind_in}
use Rattle.stock.specs.Stored.{Stored}
use Rattle.keys.specs.Key.{key_at, kind_ranked}
use Rattle.keys.specs.Listed.{key_of, keys_from}
use Rattle.keys.proofs.FirstLaws.{first_key}
use Rattle.keys.proofs.IdentLaws.{Keyed, keyed_by}
use Rattle.keys.proofs.KeyLaws.{kind_ranked_lem}
use Rattle.history.specs.Here.{record_here}

-- ---- by what its leader says

module _ (f : List ℕ) (p : ℕ) (h : p < length f) (q : Result Head Broken) (e : q ≡ record_at f p) (head : Head) (x : q ≡ Ok head) where
  pub here_is : record_here f p ≡ fields_at (between f p (p + head.len)) head.shape 24
  unfolding record_here
  here_is = ap (λ (g : Got (List Field)). get_or g.items 0 []) (records_more f p h q e head x)

  -- the place of its key can be told
  pub here_word : length f ≤ 16777216 → p + head.shape.base < 2 ^ 63
  here_word s = let r = (right f p q e head x).bounded.base_small in omega arith

  pub here_fits : length f ≤ 16777216 → p + head.shape.base < 2 ^ 64
  here_fits s = let r = here_word s in omega arith

-- ---- by its key

-- records whose first has a key
pub first_keyed : (items : List (List Field)) (key : ℕ) (ks : List ℕ) → each key_of items ≡ key ∷ ks → (items ≡ get_or items 0 [] ∷ drop 1 items) × (key_of (get_or items 0 []) ≡ key)
unfolding each
first_keyed [] key ks e = absurd (let z : ◌≡◌ {A = ℕ} 0 1 = cc in omega arith)
first_keyed (fs ∷ items) key ks e = (refl, cc)

pub here_keyed : (f : List ℕ) (p key : ℕ) (ks : List ℕ) → keys_from f p ≡ key ∷ ks
    → ((records_from f p).items ≡ record_here f p ∷ drop 1 (records_from f p).items) × (key_of (record_here f p) ≡ key)
unfolding keys_from record_here
here_keyed f p key ks e = first_keyed (records_from f p).items key ks e

-- ---- its kind

-- a record of kind k, by its first tag and by its key
pub record Known (k : Kind) (fs : List Field) : Type 0 where
  pub keyed : Keyed k fs
  pub kind : kind_in fs ≡ some k

-- the kind that number 4 gives
kind_four : (o : Option Kind) (least : ℕ) (c : Kind → Passed) (k : Kind)
    → on_kind o (λ j. pick (ltb (rank j) least) (no (fault 4 1 0)) (bind (c j) (λ _. ok j))) ≡ ok k → o ≡ some k
kind_four none least c k e = refused e
kind_four (some j) least c k e = go (ltb (rank j) least) e
  where
    go : (t : Bool) → pick t (no (fault 4 1 0)) (bind (c j) (λ _. ok j)) ≡ ok k → some j ≡ some k
    go true y = refused y
    go false y = ap some (ok_inj j k (bind_inv (c j) (λ _. ok j) k y).2)

known_by : (m : Mode) (least : ℕ) (fs : List Field) (k : Kind) → number4 m least fs ≡ ok k → number5 m k fs ≡ pass → Known k fs
unfolding number4 first_tag
known_by m least [] k e g = refused e
known_by m least (f ∷ fs) k e g = record {
  keyed = keyed_by m k f fs tt g;
  kind = kind_four (kind_of f.tag) least (λ j. fields_stand m j f.body fs) k e;
}

-- a record of a dataset
pub known_stored : (k : Kind) (fs : List Field) → Stored k fs → Known k fs
known_stored k fs s = known_by InDataset 0 fs k s.four s.five

-- and of an update
pub known_sent : (k : Kind) (fs : List Field) → update_record fs ≡ ok k → Known k fs
unfolding update_record
known_sent k fs e =
    let a = bind_inv (number4 InUpdate 0 fs) _ k e in
    let b = bind_inv (number5 InUpdate a.0 fs) _ k a.2 in
    let c = bind_inv (number6 InUpdate a.0 fs) _ k b.2 in
    let z : a.0 ≡ k = go (eqb (ruin_byte a.0 (front fs)) 1) (number7 fs) a.0 c.2 in
    rw z at (known_by InUpdate 0 fs a.0 a.1 b.1)
  where
    go : (t : Bool) (c : Passed) (j : Kind) → pick t (bind c (λ _. ok j)) (ok j) ≡ ok k → j ≡ k
    go true c j y = ok_inj j k (bind_inv c (λ _. ok j) k y).2
    go false c j y = ok_inj j k y

-- the kind by the key that stands at the base address
pub here_kind : (f : List ℕ) (p : ℕ) (q : Result Head Broken) → q ≡ record_at f p → (head : Head) → q ≡ Ok head
    → (k : Kind) → Known k (fields_at (between f p (p + head.len)) head.shape 24)
    → (key : ℕ) → key ≡ key_at f (p + head.shape.base) → (j : Kind) → j ≡ kind_ranked (key / 4294967296) → j ≡ k
here_kind f p q e head x k n key ek j ej =
    let r = right f p q e head x in
    let i : key ≡ key_of (fields_at (between f p (p + head.len)) head.shape 24) = ek ∙ first_key f p head.len head.shape r.walked n.keyed.some in
    ej ∙ ap (λ (z : ℕ). kind_ranked (z / 4294967296)) i ∙ ap kind_ranked n.keyed.kind ∙ kind_ranked_lem k
