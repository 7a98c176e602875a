-- Associations of fields that are made of bytes. Assumes nothing.
use Prim.Native.Nat.{ℕ}
use mathlib.Core.Path.{◌≡◌, refl, sym, ap, ◌∙◌}
use mathlib.Core.Bool.{true, false}
use mathlib.Core.List.{List, [], ◌∷◌}
use lib.ListN.{get_or}
use Rattle.base.specs.Check.{ok}
use Rattle.base.specs.Lists.{each}
use Rattle.base.proofs.ChoiceLaws.{both_hold}
use Rattle.fields.specs.Table.{code, insert, head_of, tuple_of}
use Rattle.fields.specs.Values.{Val, num, values, num_at}
use Rattle.fields.specs.Content.{content}
use Rattle.fields.specs.Valid.{Bytes, passes, pass_all, pass_each, valid, Has}
use Rattle.fields.specs.declared.Format.TheVariants.{InasNew, AttrNew}
use Rattle.fields.specs.declared.Sub.TheVariants.{B11, Raw}
use Rattle.fields.proofs.ByteLaws.{le1}
use Rattle.fields.proofs.ValueLaws.{head_number}
use Rattle.fields.proofs.EncodeLaws.{fill_valid}
use Rattle.forest.specs.Forest.{Forest}
use Rattle.rules.specs.Content.{inas_format}
use Rattle.rules.specs.Trees.{inas_tree}
use Rattle.rules.specs.Associations.{inas_key}
use Rattle.rules.specs.Record.{standing, assoc_of}
use Rattle.rules.specs.Written.{nums}
use Rattle.sound.specs.Sound.{SoundAssoc}
use Rattle.sound.proofs.Values.{nums_from, one_number, all_nums, each_pass}
use Rattle.sound.proofs.Attributes.{tree_attributes}
use Rattle.sound.proofs.Texts.{content_bytes}

-- the tenth byte is the instruction
pub inas_byte : (b : List ℕ) → Has InasNew b → get_or b 9 0 ≡ num_at (values (head_of InasNew) b) 4
unfolding head_of
inas_byte b e = let (l, v) = head_number (head_of InasNew) (tuple_of InasNew) b e 4 9 1 refl refl in sym (le1 b 9 l) ∙ sym v

-- so an association that is inserted is read by its own format
pub inas_format_lem : (b : List ℕ) → Has InasNew b → num_at (values (head_of InasNew) b) 4 ≡ 1 → inas_format false b ≡ InasNew
unfolding inas_format
inas_format_lem b e h = rw (inas_byte b e ∙ h)

module _ (b : List ℕ) (g : Bytes b) (e : Has InasNew b) where
  -- the values of its head
  head : List Val
  head = values (head_of InasNew) b

  -- its content can be written
  ok_all : valid (head_of InasNew) (tuple_of InasNew) (content (head_of InasNew) (tuple_of InasNew) b) ≡ true
  ok_all = fill_valid (head_of InasNew) (tuple_of InasNew) b g e

  -- its head passes
  passes_head : pass_all (head_of InasNew) head ≡ true
  unfolding valid content head
  passes_head = (both_hold (pass_all (head_of InasNew) (values (head_of InasNew) b)) _ ok_all).0

  -- its tuples pass
  passes_tuples : pass_each (tuple_of AttrNew) (content (head_of InasNew) (tuple_of InasNew) b).tuples ≡ true
  unfolding valid tuple_of
  passes_tuples = (both_hold (pass_all (head_of InasNew) (content (head_of InasNew) (tuple_of InasNew) b).head) _ ok_all).1

  -- its head is numbers
  head_nums : head ≡ nums_from 0 5 head
  unfolding head_of
  head_nums = all_nums (head_of InasNew) head refl passes_head

  -- its instruction is insert
  head_insert : num_at head 4 ≡ 1
  unfolding head_of nums_from pass_all
  head_insert =
      let p : pass_all (head_of InasNew) (nums_from 0 5 head) ≡ true = ap (pass_all (head_of InasNew)) (sym head_nums) ∙ passes_head in
      let q = both_hold (passes (B11 150 150) (num (num_at head 0))) _ p in
      let r = both_hold (passes (Raw 4) (num (num_at head 1))) _ q.1 in
      let s = both_hold (passes code (num (num_at head 2))) _ r.1 in
      let t = both_hold (passes code (num (num_at head 3))) _ s.1 in
      one_number 1 (num_at head 4) (both_hold (passes insert (num (num_at head 4))) true t.1).0

  -- it is read by the format of an insert
  pub inas_new : inas_format false b ≡ InasNew
  unfolding head
  inas_new = inas_format_lem b e head_insert

  -- the association that is read
  pub assoc_read : (f : Forest) → inas_tree b ≡ ok f → SoundAssoc (assoc_of b)
  unfolding inas_tree assoc_of standing inas_key nums each nums_from head
  assoc_read f h =
      let k : pass_all (head_of InasNew) (num (num_at head 0) ∷ num (num_at head 1) ∷ num (num_at head 2) ∷ num (num_at head 3) ∷ num 1 ∷ []) ≡ true =
      ap (λ (n : ℕ). pass_all (head_of InasNew) (num (num_at head 0) ∷ num (num_at head 1) ∷ num (num_at head 2) ∷ num (num_at head 3) ∷ num n ∷ [])) (sym head_insert)
      ∙ ap (pass_all (head_of InasNew)) (sym head_nums) ∙ passes_head in
      let h' = rw inas_new at h in
      rw (inas_new, h') (record {
        key = k;
        tree = tree_attributes (content (head_of InasNew) (tuple_of InasNew) b).tuples f (each_pass (tuple_of AttrNew) _ passes_tuples) (content_bytes (head_of InasNew) (tuple_of InasNew) b g e) h';
      })
