-- Laws of a record in the workspace as one of the result. Assumes nothing.
use Prim.Native.Nat.{ℕ, ◌+◌, ◌^◌, ◌≤◌, ◌<◌}
use mathlib.Core.Path.{◌≡◌}
use mathlib.Core.Bool.{Bool, true, false, not}
use mathlib.Core.List.{List}
use lib.ListN.{length}
use Rattle.std.specs.Prelude.{Some, None}
use Rattle.memory.specs.Wrote.{Wrote}
use Rattle.skeleton.specs.Emit.{emit}
use Rattle.rules.specs.Record.{Rec}
use Rattle.rules.specs.Written.{written_fields, field_width, written_length}
use Rattle.version.specs.Held.{Held}
use Rattle.version.specs.declared.Version.{Version}
use Rattle.composing.specs.Kept.{Kept, Lasts, EmitsHeld, MadeHeld}
use Rattle.composing.specs.Made.{Surely}
use Rattle.composing.specs.Told.{TellsHeld}
use Rattle.composing.proofs.EmittedLaws.{emitted_not, emitted_room, emitted_there, emitted_word}
use Rattle.composing.proofs.MadeLaws.{held_made_loose, held_made_next}

module _ (d u w : List ℕ) (v : Version) where
  pub kept_held : Kept d u w v → (r : Rec) × Held d u w v r
  kept_held k = (k.rec, k.held)

  pub lasts_is : (n : ℕ) → ((r : Rec) → Held d u w v r → n ≡ written_length (written_fields r)) → Lasts d u w v n
  lasts_is n e = record { is = e }

  module _ (to : ℕ) (before : List ℕ) (l : ℕ) (el : Lasts d u w v l) where
    pub kept_word : Kept d u w v → to ≤ 4611686018427387904 → to + l < 2 ^ 64
    kept_word k h = emitted_word (written_fields k.rec) to before l (el.is k.rec k.held) h k.short

    pub kept_not : length before < to + l → EmitsHeld d u w v to before (to + l) before
    unfolding EmitsHeld
    kept_not h r e = emitted_not (written_fields r) to before l (el.is r e) h

    pub kept_room : Kept d u w v → to + l ≤ length before → (r : Rec) × Held d u w v r × (to + written_length (written_fields r) ≤ length before)
    kept_room k h = (k.rec, k.held, emitted_room (written_fields k.rec) to before l (el.is k.rec k.held) h)

    pub kept_there : to + l ≤ length before → (n : ℕ) (out : List ℕ)
        → ((r : Rec) → Held d u w v r → (n ≡ to + written_length (written_fields r)) × Wrote to (emit field_width field_width false (written_fields r)) before n out)
        → EmitsHeld d u w v to before n out
    unfolding EmitsHeld
    kept_there h n out g r e = emitted_there (written_fields r) to before l (el.is r e) h n out (g r e).0 (g r e).1

  module _ (ds us : ℕ) (flags : List ℕ) (sure : Bool) (to : ℕ) (before out : List ℕ) (x : Bool) (t : Surely sure (TellsHeld d ds u us flags w v x) x) where
    pub kept_loose : not x ≡ true → MadeHeld d ds u us flags sure w v to before out None
    unfolding MadeHeld
    kept_loose y r h s = held_made_loose d ds u us flags sure to before out w v x t r h s y

    pub kept_next : not x ≡ false → (n : ℕ) → EmitsHeld d u w v to before n out → MadeHeld d ds u us flags sure w v to before out (Some n)
    unfolding MadeHeld EmitsHeld
    kept_next y n e r h s = held_made_next d ds u us flags sure to before out w v x t r h s y n (e r h)

pub ruleset lasts_ways = (kept_held, lasts_is)

pub ruleset emits_ways = (kept_held, kept_word, kept_not, kept_room, kept_there)

pub ruleset made_ways = (kept_loose, kept_next)
