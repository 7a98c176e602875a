-- A record in the workspace that can be written, and what is told of it as one of the result.
use Rattle.std.specs.Prelude.{ℕ, ◌≤◌, ◌≡◌, Bool, List, Option}
use Rattle.rules.specs.Record.{Rec}
use Rattle.rules.specs.Written.{written_fields, written_length}
use Rattle.sound.specs.Sound.{SoundRec}
use Rattle.version.specs.Held.{Held}
use Rattle.version.specs.declared.Version.{Version}
use Rattle.composing.specs.Emitted.{Emitted}
use Rattle.composing.specs.Made.{MadeOf}

-- there is such a record
pub record Kept (d u w : List ℕ) (v : Version) : Type 0 where
  pub rec : Rec
  pub held : Held d u w v rec
  pub short : written_length (written_fields rec) ≤ 99999

-- it is n bytes long when it is written
pub record Lasts (d u w : List ℕ) (v : Version) (n : ℕ) : Type 0 where
  pub is : (r : Rec) → Held d u w v r → n ≡ written_length (written_fields r)

-- it goes to `to` over what was `before` and is out; the next one begins at n
unfoldable pub EmitsHeld : List ℕ → List ℕ → List ℕ → Version → ℕ → List ℕ → ℕ → List ℕ → Type 0
EmitsHeld d u w v to before n out = (r : Rec) → Held d u w v r → Emitted (written_fields r) to before n out

-- the same, with what it names
unfoldable pub MadeHeld : List ℕ → ℕ → List ℕ → ℕ → List ℕ → Bool → List ℕ → Version → ℕ → List ℕ → List ℕ → Option ℕ → Type 0
MadeHeld d ds u us flags sure w v to before out m = (r : Rec) → Held d u w v r → SoundRec r → MadeOf d ds u us flags sure r to before out m
