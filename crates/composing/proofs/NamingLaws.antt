-- Laws of what the associations of one record name: tuple by tuple, field by field. Assumes nothing.
use Prim.Native.Nat.{ℕ, ◌+◌, ◌≤◌, ◌<◌}
use mathlib.Core.Path.{◌≡◌, refl, sym, ap, subst, ◌∙◌}
use mathlib.Core.Bool.{Bool, true, false, not}
use mathlib.Core.List.{List, [], ◌∷◌, ◌++◌}
use native.Mathlib.Omega.{arith}
use borrow.Author.Tests.{eq-eqb, ne_eqb, not-true, not-false}
use lib.ListN.{length, take, drop}
use Rattle.std.specs.Prelude.{Option, Some, None}
use Rattle.base.specs.Choice.{both}
use Rattle.base.specs.Lists.{each, gather, Each}
use Rattle.base.specs.Walk.{Got}
use Rattle.base.proofs.ChoiceLaws.{both_true}
use Rattle.base.proofs.EachLaws.{each_parts}
use Rattle.fields.specs.Values.{Val, values}
use Rattle.fields.specs.Table.{head_of, tuple_of}
use Rattle.fields.specs.Content.{many, fill}
use Rattle.fields.specs.Places.{ending_at}
use Rattle.fields.specs.declared.Format.TheVariants.{InasNew, Spas}
use Rattle.fields.proofs.TupleLaws.{here_end}
use Rattle.skeleton.specs.File.{records_from}
use Rattle.skeleton.specs.Place.{between, place_at, fields_at}
use Rattle.skeleton.specs.declared.directory.Shape.{Shape}
use Rattle.skeleton.specs.declared.place.Place.{Place}
use Rattle.skeleton.proofs.PlaceLaws.{fields_more, fields_done}
use Rattle.rules.specs.Associations.{inas_key, spas_key, field_keys, spas_keys}
use Rattle.rules.specs.Record.{Rec}
use Rattle.sequence.specs.Stream.{standing}
use Rattle.updates.specs.Acts.{chart}
use Rattle.contents.proofs.StepLaws.{step_bounds}
use Rattle.contents.proofs.SpatialLaws.{spas_next, spas_ends}
use Rattle.keys.specs.Key.{key_at, KeyFits}
use Rattle.keys.specs.Listed.{has_from}
use Rattle.keys.specs.Numbered.{number_of, Ranged}
use Rattle.keys.proofs.NamedLaws.{Names, inas_names, spas_names}
use Rattle.references.proofs.ReadableLaws.{inas_readable, spas_readable, readable_here, readable_next}
use Rattle.references.proofs.RecordLaws.{part_small, tuples_end, tuples_in_lem, tuples_falls, tuples_word}
use Rattle.composing.specs.Linked.{all_stand}
use Rattle.composing.specs.Settled.{Settled, Tells, TellsAll, Alike}
use Rattle.composing.specs.Tied.{TiedIn, Stays, StaysAll, Remain}
use Rattle.composing.proofs.LinkedLaws.{stand_join}

module _ (d : List ℕ) (ds : ℕ) (u : List ℕ) (us : ℕ) (flags : List ℕ) where
  -- whether a record stands in the end
  abbrev final : List Rec → List ℕ → Bool
  final recs = standing chart recs (records_from u us).items

  -- before anything was asked
  pub alike_same : (ks : List (List ℕ)) → Alike d ds u us flags ks ks
  unfolding Alike
  alike_same ks recs s = refl

  -- nothing is left to ask
  pub alike_over : (whole : List (List ℕ)) → Alike d ds u us flags [] whole → TellsAll d ds u us flags whole true
  unfolding TellsAll Alike all_stand
  alike_over whole a recs s = a recs s

  -- one key, and those after it
  module _ (k : List ℕ) (ks whole : List (List ℕ)) (a : Alike d ds u us flags (k ∷ ks) whole) (key : ℕ) (x : Bool) (t : Tells d ds u us flags key x)
      (g : Ranged (take 2 k)) (e : number_of (take 2 k) ≡ key) where
    split : (recs : List Rec) → Settled recs d ds u us flags → both x (all_stand (final recs) ks) ≡ all_stand (final recs) whole
    unfolding Tells Alike all_stand
    split recs s = ap (λ (b : Bool). both b (all_stand (final recs) ks)) (t recs s (take 2 k) g e) ∙ a recs s

    pub first_more : x ≡ true → Alike d ds u us flags ks whole
    unfolding Alike
    first_more z recs s = rw z at (split recs s)

    pub first_loose : x ≡ false → TellsAll d ds u us flags whole false
    unfolding TellsAll
    first_loose z recs s = rw z at (split recs s)

  -- a first part, and the rest
  module _ (ks ls whole : List (List ℕ)) (a : Alike d ds u us flags (ks ++ ls) whole) (x : Bool) (t : TellsAll d ds u us flags ks x) where
    halves : (recs : List Rec) → Settled recs d ds u us flags → both x (all_stand (final recs) ls) ≡ all_stand (final recs) whole
    unfolding TellsAll Alike
    halves recs s = ap (λ (b : Bool). both b (all_stand (final recs) ls)) (t recs s) ∙ sym (stand_join (final recs) ks ls) ∙ a recs s

    pub parts_more : x ≡ true → Alike d ds u us flags ls whole
    unfolding Alike
    parts_more z recs s = rw z at (halves recs s)

    pub parts_loose : x ≡ false → TellsAll d ds u us flags whole false
    unfolding TellsAll
    parts_loose z recs s = rw z at (halves recs s)

module _ (u : List ℕ) (us : ℕ) (flags : List ℕ) where
  -- ---- the keys of one record, which the dataset has

  -- before anything was asked
  pub remain_start : (ks : List (List ℕ)) → Remain u us flags ks ks
  unfolding Remain
  remain_start ks d ds i = (i, alike_same d ds u us flags ks)

  -- nothing is left to ask
  pub remain_over : (whole : List (List ℕ)) → Remain u us flags [] whole → StaysAll u us flags whole true
  unfolding StaysAll Remain
  remain_over whole a d ds i = alike_over d ds u us flags whole (a d ds i).1

  -- one key, and those after it
  module _ (k : List ℕ) (ks whole : List (List ℕ)) (a : Remain u us flags (k ∷ ks) whole) (key : ℕ) (x : Bool) (t : Stays u us flags key x)
      (g : Ranged (take 2 k)) (e : number_of (take 2 k) ≡ key) where
    told : (d : List ℕ) (ds : ℕ) → TiedIn d ds whole → Tells d ds u us flags key x
    unfolding Stays Remain TiedIn Each
    told d ds i = t d ds (subst (λ (j : ℕ). has_from d ds j ≡ true) e ((a d ds i).0.0 g))

    pub remain_more : x ≡ true → Remain u us flags ks whole
    unfolding Remain TiedIn Each
    remain_more z d ds i = ((a d ds i).0.1, first_more d ds u us flags k ks whole (a d ds i).1 key x (told d ds i) g e z)

    pub remain_loose : x ≡ false → StaysAll u us flags whole false
    unfolding StaysAll Remain
    remain_loose z d ds i = first_loose d ds u us flags k ks whole (a d ds i).1 key x (told d ds i) g e z

  -- a first part, and the rest
  module _ (ks ls whole : List (List ℕ)) (a : Remain u us flags (ks ++ ls) whole) (x : Bool) (t : StaysAll u us flags ks x) where
    tied : (d : List ℕ) (ds : ℕ) → TiedIn d ds whole → TiedIn d ds ks × TiedIn d ds ls
    unfolding Remain TiedIn
    tied d ds i = each_parts (λ (k : List ℕ). Ranged (take 2 k) → has_from d ds (number_of (take 2 k)) ≡ true) ks ls (a d ds i).0

    pub rest_more : x ≡ true → Remain u us flags ls whole
    unfolding StaysAll Remain
    rest_more z d ds i = ((tied d ds i).1, parts_more d ds u us flags ks ls whole (a d ds i).1 x (t d ds (tied d ds i).0) z)

    pub rest_loose : x ≡ false → StaysAll u us flags whole false
    unfolding StaysAll Remain
    rest_loose z d ds i = parts_loose d ds u us flags ks ls whole (a d ds i).1 x (t d ds (tied d ds i).0) z

  -- ---- an INAS

  pub inas_told : (b : List ℕ) → fill (head_of InasNew) (tuple_of InasNew) b ≡ true → (k : ℕ) → k ≡ key_at b 0 → KeyFits b 0 → (x : Bool) → Stays u us flags k x
      → StaysAll u us flags (inas_key b ∷ []) x
  unfolding Stays StaysAll Tells TellsAll TiedIn Each all_stand
  inas_told b filled k ek fits x t d ds i recs s =
      let n = inas_names b filled fits in
      let e : number_of (take 2 (inas_key b)) ≡ k = sym n.number ∙ sym ek in
      t d ds (subst (λ (j : ℕ). has_from d ds j ≡ true) e (i.0 n.ranged)) recs s (take 2 (inas_key b)) n.ranged e
      ∙ sym (both_true (final d ds u us flags recs (take 2 (inas_key b))))

  -- ---- the loop over the tuples of a SPAS: the next at offset at

  module _ (b : List ℕ) (at : ℕ) (whole : List (List ℕ)) (inv : Remain u us flags (spas_keys (drop at b)) whole) where
    none_left : length b ≤ at → many (tuple_of Spas) (drop at b) ≡ []
    unfolding many
    none_left h = ap (λ (g : Got (List Val)). g.items) (here_end (tuple_of Spas) b at h)

    pub tuples_over : length b ≤ at → StaysAll u us flags whole true
    unfolding each spas_keys
    tuples_over h = remain_over whole (rw (none_left h) at inv)

    module _ (g : at < length b) (z : ending_at (tuple_of Spas) b at ≡ 0) (k : ℕ) (ek : k ≡ key_at b at) (fits : KeyFits b at) (x : Bool) (t : Stays u us flags k x) where
      abbrev tuple : List ℕ
      tuple = spas_key (values (tuple_of Spas) (drop at b))

      first : Remain u us flags (tuple ∷ spas_keys (drop (at + 15) b)) whole
      unfolding each spas_keys
      first = rw (spas_next b at z g).found at inv

      names : Names b at (take 2 tuple)
      unfolding spas_key
      names = spas_names b at (at + 15) (spas_next b at z g) fits

      number : number_of (take 2 tuple) ≡ k
      number = sym names.number ∙ sym ek

      pub tuples_more : not x ≡ false → Remain u us flags (spas_keys (drop (at + 15) b)) whole
      tuples_more y = remain_more tuple (spas_keys (drop (at + 15) b)) whole first k x t names.ranged number (not-false x y)

      pub tuples_loose : not x ≡ true → StaysAll u us flags whole false
      tuples_loose y = remain_loose tuple (spas_keys (drop (at + 15) b)) whole first k x t names.ranged number (not-true x y)

  -- ---- one field

  module _ (tag : ℕ) (b : List ℕ) where
    pub field_inas : tag ≡ 0x494e4153 → (x : Bool) → StaysAll u us flags (inas_key b ∷ []) x → StaysAll u us flags (field_keys (record { tag = tag; body = b })) x
    unfolding field_keys
    field_inas e x s = simp (eq-eqb tag 0x494e4153 e) s

    module _ (n : tag ≡ 0x494e4153 → ⊥) where
      pub field_spas : tag ≡ 0x53504153 → (x : Bool) → StaysAll u us flags (spas_keys b) x → StaysAll u us flags (field_keys (record { tag = tag; body = b })) x
      unfolding field_keys
      field_spas e x s = simp (ne_eqb tag 0x494e4153 n, eq-eqb tag 0x53504153 e) s

      pub field_other : (tag ≡ 0x53504153 → ⊥) → StaysAll u us flags (field_keys (record { tag = tag; body = b })) true
      unfolding field_keys
      field_other m = simp (ne_eqb tag 0x494e4153 n, ne_eqb tag 0x53504153 m) (remain_over [] (remain_start []))

  -- ---- the loop over the fields of a record: the next at place q

  module _ (r : List ℕ) (h : Shape) (q : ℕ) (whole : List (List ℕ)) (inv : Remain u us flags (gather field_keys (fields_at r h q)) whole) (e : Option Place) (en : e ≡ place_at r h q) where
    pub fields_over : e ≡ None → StaysAll u us flags whole true
    unfolding gather
    fields_over x = remain_over whole (rw (fields_done r h q e en x) at inv)

    module _ (p : Place) (x : e ≡ Some p) (v : Bool) (s : StaysAll u us flags (field_keys (record { tag = p.tag; body = between r p.start p.end })) v) where
      parted : Remain u us flags (field_keys (record { tag = p.tag; body = between r p.start p.end }) ++ gather field_keys (fields_at r h p.next)) whole
      unfolding gather
      parted = rw (fields_more r h q e en p x) at inv

      pub fields_on : not v ≡ false → Remain u us flags (gather field_keys (fields_at r h p.next)) whole
      fields_on y = rest_more (field_keys (record { tag = p.tag; body = between r p.start p.end })) (gather field_keys (fields_at r h p.next)) whole parted v s (not-false v y)

      pub fields_loose : not v ≡ true → StaysAll u us flags whole false
      fields_loose y = rest_loose (field_keys (record { tag = p.tag; body = between r p.start p.end })) (gather field_keys (fields_at r h p.next)) whole parted v s (not-true v y)

pub ruleset inas_ways = (inas_told, arith)

pub ruleset tuples_turn = (remain_start, tuples_over, tuples_more, tuples_loose, tuples_end, tuples_in_lem, tuples_falls, tuples_word, spas_ends, arith)

pub ruleset field_ways = (field_inas, field_spas, field_other, inas_readable, spas_readable)

pub ruleset fields_turn = (remain_start, fields_over, fields_on, fields_loose, part_small, readable_here, readable_next, step_bounds)
