-- A run of writes that is not at its end.
use Rattle.std.specs.Prelude.{◌≡◌, List, ℕ, ◌+◌, length}
use Rattle.memory.specs.Put.{put}

-- zs are to be written from index `at` on over d; it is e by now, and of zs the ys are left, from index q on
pub record Left (at : ℕ) (zs d : List ℕ) (q : ℕ) (ys e : List ℕ) : Type 0 where
  pub next : q + length ys ≡ at + length zs
  pub is : put q ys e ≡ put at zs d
