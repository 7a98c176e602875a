-- What is told of one record of the result.
use Rattle.std.specs.Prelude.{ℕ, ◌≡◌, Bool, true, false, List, Option, Some, None}
use Rattle.base.specs.Check.{no, pass}
use Rattle.base.specs.Lists.{gather}
use Rattle.base.specs.declared.Fault.{Fault}
use Rattle.skeleton.specs.File.{Field, records_from}
use Rattle.rules.specs.Associations.{marks, field_keys}
use Rattle.rules.specs.Record.{Rec, rec_of}
use Rattle.rules.specs.Written.{written_fields}
use Rattle.rules.specs.declared.Kind.{Kind}
use Rattle.sequence.specs.Stream.{standing}
use Rattle.updates.specs.Acts.{chart}
use Rattle.updates.specs.Streamed.{refers_to}
use Rattle.sound.specs.Sound.{SoundRec}
use Rattle.writing.specs.House.{in_house_form}
use Rattle.composing.specs.Settled.{Settled}
use Rattle.composing.specs.Tied.{TiedIn}
use Rattle.composing.specs.Emitted.{Emitted}

-- b tells whether something stands, or is true where that is known before
pub record Surely (sure : Bool) (Told : Type 0) (b : Bool) : Type 0 where
  pub told : sure ≡ false → Told
  pub known : sure ≡ true → b ≡ true

-- the number of the refusal that the code answers, 0 where it is none; the record, the field and the tuple are not told
abbrev pub number_of : Option ℕ → ℕ
number_of None = 11
number_of (Some n) = 0

-- sure: it is known before that what the result's records name stands
module _ (d : List ℕ) (ds : ℕ) (u : List ℕ) (us : ℕ) (flags : List ℕ) (sure : Bool) where
  -- the record r is refused with this number for what it names
  abbrev pub Untied : ℕ → Rec → Type 0
  Untied number r = (recs : List Rec) → Settled recs d ds u us flags
      → (x : Fault) × (x.number ≡ number) × (refers_to (standing chart recs (records_from u us).items) (marks 1 (written_fields r)) ≡ no x)

  -- number 11 refuses the record r; or it passes, if that is not sure, and r is written from `to` on where there is room
  unfoldable pub MadeOf : Rec → ℕ → List ℕ → List ℕ → Option ℕ → Type 0
  MadeOf r to before out None = Untied (number_of None) r
  MadeOf r to before out (Some n) = (sure ≡ false → (recs : List Rec) → Settled recs d ds u us flags → refers_to (standing chart recs (records_from u us).items) (marks 1 (written_fields r)) ≡ pass)
      × Emitted (written_fields r) to before n out

  -- so it is with the record that these fields are, where they are written in the house form
  unfoldable pub Carries : List Field → ℕ → List ℕ → List ℕ → Option ℕ → Type 0
  Carries fs to before out m = (k : Kind) → SoundRec (rec_of k fs) → written_fields (rec_of k fs) ≡ in_house_form true fs → MadeOf (rec_of k fs) to before out m

-- so it is where the dataset has what they name
unfoldable pub CarriesTied : List ℕ → ℕ → List ℕ → Bool → List Field → ℕ → List ℕ → List ℕ → Option ℕ → Type 0
CarriesTied u us flags sure fs to before out m = (d : List ℕ) (ds : ℕ) → TiedIn d ds (gather field_keys fs) → Carries d ds u us flags sure fs to before out m
