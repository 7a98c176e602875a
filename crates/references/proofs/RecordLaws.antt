-- Laws of the references of one record: tuple by tuple, field by field. Assumes nothing.
use mathlib.Core.Path.{◌≡◌, refl, ap, ◌∙◌}
use mathlib.Core.List.{List, [], ◌∷◌, ◌++◌, append-nil}
use mathlib.Core.Bool.{Bool, true, false, not}
use Prim.Native.Nat.{ℕ, ◌+◌, ◌-◌, ◌^◌, ◌≤◌, ◌<◌}
use native.Mathlib.Omega.{arith}
use borrow.Author.Tests.{eq-eqb, ne_eqb, not-true, not-false}
use lib.ListN.{length, get_or, take, drop, length-take, length-drop}
use Rattle.std.specs.Prelude.{Option, Some, None, Result, Ok, Err}
use Rattle.base.specs.Check.{fault}
use Rattle.base.specs.Walk.{Got}
use Rattle.base.specs.declared.Fault.{Fault}
use Rattle.fields.specs.Values.{Val, values}
use Rattle.fields.specs.Table.{head_of, tuple_of}
use Rattle.fields.specs.Content.{many, fill}
use Rattle.fields.specs.Places.{ending_at}
use Rattle.fields.specs.declared.Format.TheVariants.{InasNew, Spas}
use Rattle.fields.proofs.TupleLaws.{here_end}
use Rattle.skeleton.specs.File.{Field}
use Rattle.skeleton.specs.Directory.{tag_at}
use Rattle.skeleton.specs.Place.{between, at_place, place_at, fields_at}
use Rattle.skeleton.specs.RightFrom.{RightFrom}
use Rattle.skeleton.specs.declared.directory.Shape.{Shape}
use Rattle.skeleton.specs.declared.place.Place.{Place}
use Rattle.skeleton.proofs.PlaceLaws.{fields_more, fields_done}
use Rattle.skeleton.proofs.RightLaws.{Next, right_next, right_done, right_in, right_tag, right_on, right_falls}
use Rattle.rules.specs.Associations.{Mark, inas_key, spas_key, spas_marks, field_marks, marks}
use Rattle.contents.proofs.StepLaws.{step_bounds, second_right}
use Rattle.contents.proofs.SpatialLaws.{spas_next, spas_ends}
use Rattle.keys.specs.Key.{key_at, KeyFits}
use Rattle.keys.specs.Listed.{has_from}
use Rattle.keys.proofs.NamedLaws.{Names, inas_names, spas_names}
use Rattle.references.specs.Named.{Says, Alike}
use Rattle.references.specs.Vouched.{Aided}
use Rattle.references.specs.Readable.{all_readable, record_readable}
use Rattle.references.proofs.MarkLaws.{alike_same, says_none, parts_more, parts_refused, mark_more, mark_loose}
use Rattle.references.proofs.ReadableLaws.{inas_readable, spas_readable, second_readable, second_marks, readable_here, readable_next}

-- ---- an INAS: its key k, and whether it stands in the file

module _ (f : List ℕ) (start : ℕ) (t : List ℕ) (n : ℕ) (map v : List ℕ) (laid : Aided f start t n map v) (b : List ℕ) (i : ℕ)
    (filled : fill (head_of InasNew) (tuple_of InasNew) b ≡ true) (k : ℕ) (ek : k ≡ key_at b 0) (fits : KeyFits b 0) (x : Bool) (ex : x ≡ has_from f start k) where
  abbrev mark : Mark
  mark = record { key = inas_key b; field = i; tuple = 0 }

  there : x ≡ has_from f start (key_at b 0)
  there = ex ∙ ap (has_from f start) ek

  pub inas_there : x ≡ true → Says f start (mark ∷ []) (Ok tt)
  inas_there y =
      says_none f start (mark ∷ [])
      (mark_more f start laid.sound mark [] (mark ∷ []) (alike_same f start (mark ∷ [])) b 0 (inas_names b filled fits) x there y)

  pub inas_loose : x ≡ false → Says f start (mark ∷ []) (Err (fault 11 i 0))
  inas_loose y = mark_loose f start laid.sound mark [] (mark ∷ []) (alike_same f start (mark ∷ [])) b 0 (inas_names b filled fits) x there y

pub ruleset inas_ways = (inas_there, inas_loose)

-- ---- the loop over the tuples of a SPAS: tuple j at offset at, where the whole is `whole`

module _ (f : List ℕ) (start : ℕ) (b : List ℕ) (i at j : ℕ) (whole : List Mark)
    (inv : Alike f start (spas_marks i j (many (tuple_of Spas) (drop at b))) whole) where
  none_left : length b ≤ at → many (tuple_of Spas) (drop at b) ≡ []
  unfolding many
  none_left h = ap (λ (g : Got (List Val)). g.items) (here_end (tuple_of Spas) b at h)

  pub tuples_over : length b ≤ at → Says f start whole (Ok tt)
  unfolding spas_marks
  tuples_over h = says_none f start whole (rw (none_left h) at inv)

  module _ (g : at < length b) (z : ending_at (tuple_of Spas) b at ≡ 0) (t : List ℕ) (n : ℕ) (map v : List ℕ) (laid : Aided f start t n map v)
      (k : ℕ) (ek : k ≡ key_at b at) (fits : KeyFits b at) (x : Bool) (ex : x ≡ has_from f start k) where
    abbrev tuple : Mark
    tuple = record { key = spas_key (values (tuple_of Spas) (drop at b)); field = i; tuple = j }

    abbrev later : List Mark
    later = spas_marks i (j + 1) (many (tuple_of Spas) (drop (at + 15) b))

    first : Alike f start (tuple ∷ later) whole
    unfolding spas_marks
    first = rw (spas_next b at z g).found at inv

    names : Names b at (take 2 tuple.key)
    unfolding spas_key
    names = spas_names b at (at + 15) (spas_next b at z g) fits

    stands : x ≡ has_from f start (key_at b at)
    stands = ex ∙ ap (has_from f start) ek

    pub tuples_more : not x ≡ false → Alike f start later whole
    tuples_more y = mark_more f start laid.sound tuple later whole first b at names x stands (not-false x y)

    pub tuples_loose : not x ≡ true → Says f start whole (Err (fault 11 i j))
    tuples_loose y = mark_loose f start laid.sound tuple later whole first b at names x stands (not-true x y)

module _ (b : List ℕ) (at : ℕ) (g : at < length b) (z : ending_at (tuple_of Spas) b at ≡ 0) where
  pub tuples_end : ending_at (tuple_of Spas) b (at + 15) ≡ 0
  tuples_end = (spas_next b at z g).rest

  pub tuples_in_lem : at + 15 ≤ length b
  tuples_in_lem = (spas_next b at z g).inside

  pub tuples_falls : length b - (at + 15) < length b - at
  tuples_falls = let i = tuples_in_lem in omega arith

  pub tuples_word : length b ≤ 16777216 → at + 15 < 2 ^ 64
  tuples_word l = let i = tuples_in_lem in omega arith

pub ruleset tuples_turn =
    (alike_same, tuples_over, tuples_more, tuples_loose, tuples_end, tuples_in_lem, tuples_falls, tuples_word, spas_ends, arith)

-- ---- one field

module _ (f : List ℕ) (start tag : ℕ) (b : List ℕ) (i : ℕ) where
  pub field_inas : tag ≡ 0x494e4153 → (v : Result (Unit {0}) Fault) → Says f start (record { key = inas_key b; field = i; tuple = 0 } ∷ []) v
      → Says f start (field_marks i (record { tag = tag; body = b })) v
  unfolding field_marks
  field_inas e v s = simp (eq-eqb tag 0x494e4153 e) s

  module _ (n : tag ≡ 0x494e4153 → ⊥) where
    pub field_spas : tag ≡ 0x53504153 → (v : Result (Unit {0}) Fault) → Says f start (spas_marks i 1 (many (tuple_of Spas) b)) v
        → Says f start (field_marks i (record { tag = tag; body = b })) v
    unfolding field_marks
    field_spas e v s = simp (ne_eqb tag 0x494e4153 n, eq-eqb tag 0x53504153 e) s

    pub field_other : (tag ≡ 0x53504153 → ⊥) → Says f start (field_marks i (record { tag = tag; body = b })) (Ok tt)
    unfolding field_marks
    field_other m = simp (ne_eqb tag 0x494e4153 n, ne_eqb tag 0x53504153 m) (says_none f start [] (alike_same f start []))

pub ruleset field_ways = (field_inas, field_spas, field_other, inas_readable, spas_readable)

-- ---- the fields of a record one by one: field i at place q, where the whole is `whole`

module _ (f : List ℕ) (start : ℕ) (r : List ℕ) (h : Shape) (q i : ℕ) (whole : List Mark) (inv : Alike f start (marks i (fields_at r h q)) whole)
    (e : Option Place) (en : e ≡ place_at r h q) where
  fields_over : e ≡ None → Says f start whole (Ok tt)
  unfolding marks
  fields_over x = says_none f start whole (rw (fields_done r h q e en x) at inv)

  module _ (field : Place) (x : e ≡ Some field) (v : Result (Unit {0}) Fault)
      (s : Says f start (field_marks i (record { tag = field.tag; body = between r field.start field.end })) v) where
    abbrev behind : List Mark
    behind = marks (i + 1) (fields_at r h field.next)

    parted : Alike f start (field_marks i (record { tag = field.tag; body = between r field.start field.end }) ++ behind) whole
    unfolding marks
    parted = rw (fields_more r h q e en field x) at inv

    fields_on : v ≡ Ok tt → Alike f start behind whole
    fields_on y = parts_more f start (field_marks i (record { tag = field.tag; body = between r field.start field.end })) behind whole parted v s y

    fields_refused : (y : Fault) → v ≡ Err y → Says f start whole (Err y)
    fields_refused y w = parts_refused f start (field_marks i (record { tag = field.tag; body = between r field.start field.end })) behind whole parted v s y w

-- ---- one field by its entry at q: the first of the fields from there on

module _ (f : List ℕ) (start : ℕ) (r : List ℕ) (h : Shape) (q i : ℕ) (e : Option Place) (en : e ≡ place_at r h q) where
  pub entry_done : e ≡ None → Says f start (marks i (take 1 (fields_at r h q))) (Ok tt)
  unfolding marks
  entry_done x = rw (fields_done r h q e en x) (says_none f start [] (alike_same f start []))

  module _ (field : Place) (x : e ≡ Some field) where
    alone : marks i (take 1 (fields_at r h q)) ≡ field_marks i (record { tag = field.tag; body = between r field.start field.end })
    unfolding marks
    alone = rw (fields_more r h q e en field x) (append-nil _)

    pub entry_there : (v : Result (Unit {0}) Fault) → Says f start (field_marks i (record { tag = field.tag; body = between r field.start field.end })) v
        → Says f start (marks i (take 1 (fields_at r h q))) v
    entry_there v s = rw alone s

-- a field whose tag is that of no association, in a directory that is right
pub entry_plain : (f : List ℕ) (start : ℕ) (r : List ℕ) (h : Shape) (q i : ℕ) → RightFrom r h q → (get_or r q 0 ≡ 30 → ⊥) → (tag : ℕ) → tag ≡ tag_at r q
    → (tag ≡ 0x494e4153 → ⊥) → (tag ≡ 0x53504153 → ⊥) → Says f start (marks i (take 1 (fields_at r h q))) (Ok tt)
entry_plain f start r h q i k o tag et n m =
    let x = right_next r h q k o in
    let en : at_place tag x.start x.end (q + (4 + h.a + h.b)) ≡ place_at r h q = rw et x.place in
    entry_there f start r h q i _ en (record { tag = tag; start = x.start; end = x.end; next = q + (4 + h.a + h.b) }) refl (Ok tt)
    (field_other f start tag (between r x.start x.end) i n m)

-- ---- the loop over the entries of a record: field i at place q, where the whole is `whole`

module _ (f : List ℕ) (start : ℕ) (r : List ℕ) (h : Shape) (q i : ℕ) (whole : List Mark) (inv : Alike f start (marks i (fields_at r h q)) whole)
    (k : RightFrom r h q) where
  pub fields_end : get_or r q 0 ≡ 30 → Says f start whole (Ok tt)
  fields_end y = fields_over f start r h q i whole inv None (right_done r h q k y) refl

  module _ (o : get_or r q 0 ≡ 30 → ⊥) where
    next : Next r h q
    next = right_next r h q k o

    abbrev found : Place
    found = record { tag = tag_at r q; start = next.start; end = next.end; next = q + (4 + h.a + h.b) }

    pub fields_counts : i ≤ q → i + 1 ≤ q + (4 + h.a + h.b)
    fields_counts l = omega arith

    pub fields_number : i ≤ q → length r ≤ 16777216 → i + 1 < 2 ^ 64
    fields_number l g = let d = next.fits in omega arith

    pub fields_word : length r ≤ 16777216 → q + (4 + h.a + h.b) < 2 ^ 64
    fields_word g = let d = next.fits in omega arith

    pub fields_readable : all_readable (fields_at r h q) ≡ true → all_readable (fields_at r h (q + (4 + h.a + h.b))) ≡ true
    fields_readable a = readable_next r h q _ next.place found refl a

    module _ (v : Result (Unit {0}) Fault) (s : Says f start (marks i (take 1 (fields_at r h q))) v) where
      said : Says f start (field_marks i (record { tag = tag_at r q; body = between r next.start next.end })) v
      said = rw (← alone f start r h q i _ next.place found refl) s

      pub fields_passed : v ≡ Ok tt → Alike f start (marks (i + 1) (fields_at r h (q + (4 + h.a + h.b)))) whole
      fields_passed = fields_on f start r h q i whole inv _ next.place found refl v said

      pub fields_loose : (y : Fault) → v ≡ Err y → Says f start whole (Err y)
      fields_loose = fields_refused f start r h q i whole inv _ next.place found refl v said

-- behind the first field
none_not : (fs : List Field) → record_readable fs ≡ true → fs ≡ [] → ⊥
unfolding record_readable
none_not fs e z = let w : false ≡ true = rw z at e in (let y : ◌≡◌ {A = ℕ} 0 1 = cc in omega arith)

pub behind_right : (r : List ℕ) (h : Shape) → record_readable (fields_at r h 24) ≡ true → RightFrom r h 24 → RightFrom r h (28 + h.a + h.b)
behind_right r h e = second_right r h (none_not (fields_at r h 24) e)

pub second_alike : (f : List ℕ) (start : ℕ) (r : List ℕ) (h : Shape) → record_readable (fields_at r h 24) ≡ true
    → Alike f start (marks 2 (fields_at r h (28 + h.a + h.b))) (marks 1 (fields_at r h 24))
second_alike f start r h e = rw (second_marks r h e) (alike_same f start (marks 1 (fields_at r h 24)))

-- a part is no longer than the whole
pub part_small : (r : List ℕ) (i j n : ℕ) → length r ≤ n → length (between r i j) ≤ n
part_small r i j n h = omega (arith, length-take (j - i) (drop i r), length-drop i r)

pub ruleset fields_turn = (second_readable, second_alike, behind_right, fields_end, fields_counts, fields_number, fields_word, fields_readable, fields_passed, fields_loose, right_in, right_on, right_falls)

pub ruleset entry_ways = (entry_done, entry_there, entry_plain, part_small, readable_here, step_bounds, right_tag)
