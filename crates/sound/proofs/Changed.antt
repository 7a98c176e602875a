-- What an accepted update record, read from bytes, leaves of a sound record is sound. Assumes nothing.
use Prim.Native.Nat.{ℕ, ◌+◌}
use mathlib.Core.Path.{◌≡◌, refl, sym, ap, ◌∙◌, subst}
use mathlib.Core.Bool.{true, false, true≢false}
use mathlib.Core.Option.{Option, some, none}
use mathlib.Core.List.{List, [], ◌∷◌}
use lib.Dec.{eqb}
use borrow.Author.Tests.{eqb-true, eq-eqb}
use Rattle.base.specs.Choice.{pick}
use Rattle.base.specs.Check.{ok, in_field, pass}
use Rattle.base.specs.Lists.{Each}
use Rattle.base.proofs.ChoiceLaws.{both_hold}
use Rattle.base.proofs.CheckLaws.{bind_inv, ok_inj, pass_inv, refused, field_inv}
use Rattle.base.proofs.OptionLaws.{never, some_inj}
use Rattle.skeleton.specs.File.{Field}
use Rattle.fields.specs.Table.{head_of}
use Rattle.fields.specs.Valid.{Bytes, pass_all}
use Rattle.rules.specs.Tags.{ATTR, INAS, SPAS, COCC, C2IT, C2IL}
use Rattle.rules.specs.ByTag.{first_tag, front, bodies}
use Rattle.rules.specs.Kind.{kind_of, rcnm}
use Rattle.rules.specs.Grammar.{ruin_byte, as_stored, number4}
use Rattle.rules.specs.Content.{ident_format, number5}
use Rattle.rules.specs.Trees.{number6}
use Rattle.rules.specs.Coordinates.{Coord, sent}
use Rattle.rules.specs.Associations.{number7}
use Rattle.rules.specs.Record.{Rec, Parts, Ident, ident_of, key_named, key_of, rec_of, update_record}
use Rattle.rules.specs.Modify.{act_field, act_fields}
use Rattle.rules.specs.Change.{follows, revised}
use Rattle.rules.specs.Written.{nums}
use Rattle.rules.specs.declared.Kind.{Kind}
use Rattle.rules.specs.declared.Kind.TheVariants.{Info, Point, Multi, Feature}
use Rattle.rules.specs.declared.Mode.TheVariants.{InUpdate}
use Rattle.sequence.specs.Keyed.{Under, Has}
use Rattle.sequence.proofs.Tests.{by_bool}
use Rattle.updates.specs.Acts.{kind_in, named_by, chart}
use Rattle.updates.proofs.Acted.{Acted, acted_insert, acted_modify}
use Rattle.sound.specs.Sound.{SoundParts, SoundRec, ident_vals}
use Rattle.sound.proofs.Bodies.{each_body, bodies_skip}
use Rattle.sound.proofs.Idents.{ident_nums, ident_read}
use Rattle.sound.proofs.Records.{Stood, Through, through, ruin_byte_lem}
use Rattle.sound.proofs.Parts.{record_sound}
use Rattle.sound.proofs.Modified.{fields_sound, sent_sound}

-- an update record that was read: it is made of bytes and passed its tests
pub record Sendable (fs : List Field) : Type 0 where
  pub bytes : Each (λ f. Bytes f.body) fs
  pub kind : Kind
  pub tested : update_record fs ≡ ok kind

-- what it passed
pub tests : (fs : List Field) (k : Kind) → update_record fs ≡ ok k
    → (number4 InUpdate 0 fs ≡ ok k) × (number5 InUpdate k fs ≡ pass) × (number6 InUpdate k fs ≡ pass) × (ruin_byte k (front fs) ≡ 1 → number7 fs ≡ pass)
unfolding update_record
tests fs k e =
    let (j, a, b) = bind_inv (number4 InUpdate 0 fs) _ k e in
    let (t, c, d) = bind_inv (number5 InUpdate j fs) _ k b in
    let (u, f, g) = bind_inv (number6 InUpdate j fs) _ k d in
    by_bool (eqb (ruin_byte j (front fs)) 1)
    (λ h.
    let (v, x, y) = bind_inv (number7 fs) _ k (rw h at g) in
    let z : j ≡ k = ok_inj j k y in
    rw (← z) (a, c, f, λ _. x))
    (λ h.
    let z : j ≡ k = ok_inj j k (rw h at g) in
    rw (← z) (a, c, f, λ r. absurd (true≢false (sym (eq-eqb (ruin_byte j (front fs)) 1 r) ∙ h))))

-- the kind whose RCNM a number is
kind_back : ℕ → Kind
kind_back n = pick (eqb n 150) Info (pick (eqb n 110) Point (pick (eqb n 115) Multi Feature))

-- which is that of a kind's own
kind_back_lem : (k : Kind) → kind_back (rcnm k) ≡ k
unfolding rcnm kind_back
kind_back_lem Info = refl
kind_back_lem Point = refl
kind_back_lem Multi = refl
kind_back_lem Feature = refl

-- the fields of an update record
module _ (k : Kind) (f : Field) (fs : List Field) (t : Through InUpdate k f fs) where
  -- RUIN
  ruin_is : ruin_byte k f.body ≡ (ident_of k f.body).ruin
  ruin_is = ruin_byte_lem k f.body t.ident

  -- an insert
  insert_sound : (ident_of k f.body).ruin ≡ 1 → number7 (f ∷ fs) ≡ pass → SoundRec (rec_of k (f ∷ fs))
  unfolding as_stored
  insert_sound r e =
      let n : eqb (ruin_byte k f.body) 1 ≡ true = eq-eqb (ruin_byte k f.body) 1 (ruin_is ∙ r) in
      let s : Each (Stood true k) fs = rw n at t.stood in
      record_sound InUpdate k f fs t s (t.whole n) e

  -- the identifier acts on nothing
  ident_idle : (new : List Coord) (p q : Parts) → act_field new f p ≡ ok q → p ≡ q
  unfolding act_field kind_of
  ident_idle new p q e =
      let other : (u : ℕ) → kind_of u ≡ none → eqb f.tag u ≡ false =
      λ u n. by_bool (eqb f.tag u) (λ h. never (sym t.kind ∙ ap kind_of (eqb-true f.tag u h) ∙ n)) (λ h. h) in
      ok_inj p q (rw (other ATTR refl, other INAS refl, other COCC refl, other C2IT refl, other SPAS refl) at e)

  -- a modify
  modify_sound : (old : Rec) (p : Parts) → SoundRec old → old.kind ≡ k → old.rcid ≡ (ident_of k f.body).rcid → old.code ≡ (ident_of k f.body).code
      → eqb (ident_of k f.body).ruin 1 ≡ false → act_fields (sent (f ∷ fs)) 1 (f ∷ fs) old.parts ≡ ok p
      → SoundRec (revised (ident_of k f.body).rver p old)
  unfolding as_stored act_fields revised ident_vals
  modify_sound old p s q r c n e =
      let m : eqb (ruin_byte k f.body) 1 ≡ false = ap (λ (x : ℕ). eqb x 1) ruin_is ∙ n in
      let stood : Each (Stood false k) fs = rw m at t.stood in
      let (p', a, b) = bind_inv (in_field 1 (act_field (sent (f ∷ fs)) f old.parts)) _ p e in
      let z : old.parts ≡ p' = ident_idle (sent (f ∷ fs)) old.parts p' (field_inv 1 (act_field (sent (f ∷ fs)) f old.parts) p' a) in
      let o : SoundParts k old.parts = subst (λ (j : Kind). SoundParts j old.parts) q s.parts in
      let w = sent_sound k (f ∷ fs) (sent_stood stood) in
      let u : SoundParts k p = fields_sound k (sent (f ∷ fs)) w 2 fs p' p stood (rw z at o) b in
      record {
        ident = same_ident (ident_read k f.body t.ident_bytes_lem t.ident);
        code_none = s.code_none;
        foid = s.foid;
        parts = subst (λ (j : Kind). SoundParts j p) (sym q) u;
      }
    where
      sent_stood : Each (Stood false k) fs → Each (λ b. Stood false k (record { tag = C2IL; body = b })) (bodies C2IL (f ∷ fs))
      sent_stood stood =
          let h : eqb f.tag C2IL ≡ false = by_bool (eqb f.tag C2IL) (λ h. never (sym t.kind ∙ ap kind_of (eqb-true f.tag C2IL h) ∙ (unfold kind_of in refl))) (λ h. h) in
          rw (bodies_skip C2IL f fs h) (each_body (Stood false k) C2IL fs stood)

      same_ident : pass_all (head_of (ident_format true k)) (nums (ident_nums k (ident_of k f.body))) ≡ true
          → pass_all (head_of (ident_format true old.kind)) (ident_vals (revised (ident_of k f.body).rver p old)) ≡ true
      same_ident h = unfold ident_nums ident_vals revised in rw (q, r, c) h

-- RVER and code follow the old ones
code_follows : (id : Ident) (old : Rec) → follows id old ≡ pass → old.code ≡ id.code
unfolding follows
code_follows id old e = sym (eqb-true id.code old.code (both_hold (eqb id.rver (old.rver + 1)) _ (pass_inv _ 10 1 0 tt e)).1)

-- the kind and the number of a record that an update record names
pub key_names : (old : Rec) (k : Kind) (fs : List Field) → key_of old ≡ key_named k fs → (old.kind ≡ k) × (old.rcid ≡ (ident_of k (front fs)).rcid)
unfolding key_of key_named
key_names old k fs e =
    let a : rcnm old.kind ≡ rcnm k = cc in
    (sym (kind_back_lem old.kind) ∙ ap kind_back a ∙ kind_back_lem k, cc)

-- an update record that was read
pub changed_sound : (fs : List Field) (k : Kind) (o : Option Rec) (s : Rec) → kind_in fs ≡ some k → Sendable fs → Under chart (named_by (some k) fs) o
    → Has chart SoundRec o → Acted k fs o (some s) → SoundRec s
unfolding number4 first_tag front named_by
changed_sound [] k o s x w u h a = refused (tests [] w.kind w.tested).0
changed_sound (f ∷ fs) k o s x w u h a =
    let (four, five, six, seven) = tests (f ∷ fs) w.kind w.tested in
    let t = through InUpdate 0 f fs w.kind w.bytes four five six in
    let z : w.kind ≡ k = some_inj (sym t.kind ∙ x) in
    go o s u h (rw z at t) (subst (λ (j : Kind). ruin_byte j f.body ≡ 1 → number7 (f ∷ fs) ≡ pass) z seven) a
  where
    go : (o : Option Rec) (s : Rec) → Under chart (key_named k (f ∷ fs)) o → Has chart SoundRec o → Through InUpdate k f fs
        → (ruin_byte k f.body ≡ 1 → number7 (f ∷ fs) ≡ pass) → Acted k (f ∷ fs) o (some s) → SoundRec s
    go none s u h t n (acted_insert i v w) = unfold front in insert_sound k f fs t i (n (ruin_is k f fs t ∙ i))
    go (some old) s u h t n (acted_modify {p = p} i j l g a w) =
        unfold front in
        let (q, r) = key_names old k (f ∷ fs) u in
        modify_sound k f fs t old p h q r (code_follows (ident_of k f.body) old l) i a
