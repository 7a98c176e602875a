-- An association of a sound record is read again from its written field. Assumes nothing.
use Prim.Native.Nat.{◌≤◌}
use mathlib.Core.Path.{◌≡◌, ap, ◌∙◌}
use lib.ListN.{length}
use Rattle.base.specs.Check.{ok}
use Rattle.base.specs.Lists.{each}
use Rattle.base.proofs.ChoiceLaws.{both_too}
use Rattle.fields.specs.Table.{head_of, tuple_of}
use Rattle.fields.specs.Content.{Content, content, encode}
use Rattle.fields.specs.Valid.{valid, Has}
use Rattle.fields.specs.declared.Format.TheVariants.{InasNew}
use Rattle.fields.proofs.DecodeLaws.{encode_fill}
use Rattle.forest.specs.Forest.{tuples_of}
use Rattle.forest.specs.Rule.{tree_of}
use Rattle.rules.specs.Trees.{tup_of, inas_tree}
use Rattle.rules.specs.Record.{Assoc, standing, assoc_of}
use Rattle.rules.specs.Written.{tup_vals, tree_bytes, assoc_field}
use Rattle.sound.specs.Sound.{SoundAssoc}
use Rattle.sound.proofs.WrittenKeys.{assoc_vals, assoc_format, assoc_key_lem}
use Rattle.roundtrip.proofs.Attributes.{tree_pass, tree_again}

module _ (a : Assoc) (s : SoundAssoc a) (l : length (tree_bytes a.attributes) ≤ 99999) where
  -- what its field holds
  held : Content
  held = record { head = assoc_vals a; tuples = each tup_vals (tuples_of a.attributes) }

  -- its field has the format of an insert, and holds that
  both_back : Has InasNew (assoc_field a).body × (content (head_of InasNew) (tuple_of InasNew) (assoc_field a).body ≡ held)
  unfolding encode assoc_field tree_bytes valid tuple_of held
  both_back = encode_fill (head_of InasNew) (tuple_of InasNew) held (both_too s.key (tree_pass a.attributes s.tree l))

  -- its format
  pub inas_has : Has InasNew (assoc_field a).body
  inas_has = both_back.0

  -- its tree
  pub inas_tree_lem : inas_tree (assoc_field a).body ≡ ok a.attributes
  unfolding inas_tree held
  inas_tree_lem = rw (assoc_format a s) (ap (λ (c : Content). tree_of (each tup_of c.tuples)) both_back.1 ∙ tree_again a.attributes s.tree)

  -- the association
  pub assoc_again : assoc_of (assoc_field a).body ≡ a
  unfolding assoc_of standing
  assoc_again = λ i. record { key = assoc_key_lem a s i; attributes = standing (inas_tree_lem i) }
