-- A loop that writes: what is left to write. Assumes nothing.
use Prim.Native.Nat.{ℕ, ◌+◌, ◌≤◌}
use mathlib.Core.Path.{◌≡◌, refl, sym, ap, ◌∙◌}
use mathlib.Core.List.{List, [], ◌++◌}
use native.Mathlib.Omega.{arith}
use lib.ListN.{length, length-append}
use Rattle.memory.specs.Put.{put}
use Rattle.memory.specs.Wrote.{Wrote}
use Rattle.memory.proofs.WroteLaws.{wrote_length}
use Rattle.writing.proofs.WriterLaws.{put_on, put_all}

-- ys are to be written from `at` on over what was d; xs of them are left, from p on over what is e
pub record Left (at : ℕ) (ys d : List ℕ) (p : ℕ) (xs e : List ℕ) : Type 0 where
  pub count : p + length xs ≡ at + length ys
  pub long : length e ≡ length d
  pub is : put p xs e ≡ put at ys d

-- all is left
pub left_start : {at : ℕ} {ys d : List ℕ} (xs : List ℕ) → ys ≡ xs → Left at ys d at xs d
left_start {at} {ys} {d} xs q = rw q (record { count = refl; long = refl; is = refl })

module _ {at : ℕ} {ys d : List ℕ} {p : ℕ} {xs e : List ℕ} (l : Left at ys d p xs e) where
  -- nothing is left
  pub left_done : xs ≡ [] → Wrote at ys d p e
  left_done z = let n : length xs ≡ 0 = ap length z in put_all xs l.is z (omega (arith, l.count))

  -- the room that there is
  pub left_room : at + length ys ≤ length d → p + length xs ≤ length e
  left_room g = omega (arith, l.count, l.long)

  -- a write
  pub left_more : {p' : ℕ} {zs e' : List ℕ} (rest : List ℕ) → xs ≡ zs ++ rest → Wrote p zs e p' e' → Left at ys d p' rest e'
  left_more {p'} {zs} {e'} rest q w =
      let n : length xs ≡ length zs + length rest = ap length q ∙ length-append zs rest in
      record {
        count = omega (arith, l.count, w.next);
        long = wrote_length w ∙ l.long;
        is = put_on rest w ∙ ap (λ (m : List ℕ). put p m e) (sym q) ∙ l.is;
      }
