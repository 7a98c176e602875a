-- Laws of one record of the result. Assumes nothing.
use Prim.Native.Nat.{ℕ}
use mathlib.Core.Path.{◌≡◌, refl, sym, subst, ◌∙◌}
use mathlib.Core.Bool.{Bool, true, false, not, true≢false}
use mathlib.Core.List.{List}
use borrow.Author.Tests.{not-true, not-false}
use Rattle.std.specs.Prelude.{Some, None}
use Rattle.base.specs.Lists.{gather}
use Rattle.skeleton.specs.File.{Field, records_from}
use Rattle.rules.specs.Record.{Rec, rec_of}
use Rattle.rules.specs.Written.{written_fields}
use Rattle.rules.specs.declared.Kind.{Kind}
use Rattle.rules.specs.Associations.{field_keys}
use Rattle.sequence.specs.Stream.{standing}
use Rattle.updates.specs.Acts.{chart}
use Rattle.sound.specs.Sound.{SoundRec}
use Rattle.version.specs.Held.{Held}
use Rattle.version.specs.declared.Version.{Version}
use Rattle.writing.specs.House.{in_house_form}
use Rattle.composing.specs.Settled.{TellsAll, TellsOf}
use Rattle.composing.specs.Tied.{TiedIn, StaysAll}
use Rattle.composing.specs.Told.{TellsHeld}
use Rattle.composing.specs.Emitted.{Emitted}
use Rattle.composing.specs.Made.{Surely, MadeOf, Carries, CarriesTied}
use Rattle.composing.proofs.LinkedLaws.{linked_pass, linked_no, fields_linked}

-- ---- `passes`, `version_passes`

module _ (sure : Bool) (Told : Type 0) where
  pub surely_known : sure ≡ true → Surely sure Told true
  surely_known e = record { told = λ h. absurd (true≢false (sym e ∙ h)); known = λ h. refl }

  pub surely_told : sure ≡ false → (b : Bool) → Told → Surely sure Told b
  surely_told e b t = record { told = λ h. t; known = λ h. absurd (true≢false (sym h ∙ e)) }

-- of something else that it tells
surely_as : (sure : Bool) (T R : Type 0) (b : Bool) → (T → R) → Surely sure T b → Surely sure R b
surely_as sure T R b f t = record { told = λ h. f (t.told h); known = t.known }

module _ (d : List ℕ) (ds : ℕ) (u : List ℕ) (us : ℕ) (flags : List ℕ) (sure : Bool) (to : ℕ) (before out : List ℕ) where
  -- whether a record stands in the end
  abbrev final : List Rec → List ℕ → Bool
  final recs = standing chart recs (records_from u us).items

  -- ---- a sound record of which x tells whether what it names stands

  module _ (r : Rec) (s : SoundRec r) (x : Bool) (t : Surely sure (TellsOf d ds u us flags r x) x) where
    -- where it is not true, that was not known before
    unsure : not x ≡ true → (b : Bool) → sure ≡ b → sure ≡ false
    unsure y true e = absurd (true≢false (sym (t.known e) ∙ not-true x y))
    unsure y false e = e

    made_loose : not x ≡ true → MadeOf d ds u us flags sure r to before out None
    unfolding MadeOf TellsOf
    made_loose y recs z = linked_no (final recs) r s (sym (t.told (unsure y sure refl) recs z) ∙ not-true x y)

    made_next : not x ≡ false → (n : ℕ) → Emitted (written_fields r) to before n out → MadeOf d ds u us flags sure r to before out (Some n)
    unfolding MadeOf TellsOf
    made_next y n e = ((λ h recs z. linked_pass (final recs) r s (sym (t.told h recs z) ∙ not-false x y)), e)

  -- ---- by its fields

  module _ (fs : List Field) (x : Bool) (t : Surely sure (TellsAll d ds u us flags (gather field_keys fs) x) x) where
    of_fields : (k : Kind) → Surely sure (TellsOf d ds u us flags (rec_of k fs) x) x
    unfolding TellsOf TellsAll
    of_fields k =
        surely_as sure (TellsAll d ds u us flags (gather field_keys fs) x) (TellsOf d ds u us flags (rec_of k fs) x) x
        (λ a recs s. a recs s ∙ sym (fields_linked (final recs) k fs)) t

    carries_loose : not x ≡ true → Carries d ds u us flags sure fs to before out None
    unfolding Carries
    carries_loose y k s e = made_loose (rec_of k fs) s x (of_fields k) y

    carries_next : not x ≡ false → (n : ℕ) → Emitted (in_house_form true fs) to before n out → Carries d ds u us flags sure fs to before out (Some n)
    unfolding Carries
    carries_next y n w k s e = made_next (rec_of k fs) s x (of_fields k) y n (subst (λ (gs : List Field). Emitted gs to before n out) (sym e) w)

  -- ---- in the workspace

  module _ (w : List ℕ) (v : Version) (x : Bool) (t : Surely sure (TellsHeld d ds u us flags w v x) x) (r : Rec) (h : Held d u w v r) (s : SoundRec r) where
    of_held : Surely sure (TellsOf d ds u us flags r x) x
    unfolding TellsHeld
    of_held = surely_as sure (TellsHeld d ds u us flags w v x) (TellsOf d ds u us flags r x) x (λ a. a r h) t

    pub held_made_loose : not x ≡ true → MadeOf d ds u us flags sure r to before out None
    held_made_loose y = made_loose r s x of_held y

    pub held_made_next : not x ≡ false → (n : ℕ) → Emitted (written_fields r) to before n out → MadeOf d ds u us flags sure r to before out (Some n)
    held_made_next y n e = made_next r s x of_held y n e

-- ---- of the dataset, which has what it names

module _ (u : List ℕ) (us : ℕ) (flags : List ℕ) (sure : Bool) (to : ℕ) (before out : List ℕ) (fs : List Field) (x : Bool)
    (t : Surely sure (StaysAll u us flags (gather field_keys fs) x) x) where
  stays_in : (d : List ℕ) (ds : ℕ) → TiedIn d ds (gather field_keys fs) → Surely sure (TellsAll d ds u us flags (gather field_keys fs) x) x
  unfolding StaysAll
  stays_in d ds i = surely_as sure (StaysAll u us flags (gather field_keys fs) x) (TellsAll d ds u us flags (gather field_keys fs) x) x (λ a. a d ds i) t

  pub tied_loose : not x ≡ true → CarriesTied u us flags sure fs to before out None
  unfolding CarriesTied
  tied_loose y d ds i = carries_loose d ds u us flags sure to before out fs x (stays_in d ds i) y

  pub tied_next : not x ≡ false → (n : ℕ) → Emitted (in_house_form true fs) to before n out → CarriesTied u us flags sure fs to before out (Some n)
  unfolding CarriesTied
  tied_next y n w d ds i = carries_next d ds u us flags sure to before out fs x (stays_in d ds i) y n w

pub ruleset carries_ways = (tied_loose, tied_next)
