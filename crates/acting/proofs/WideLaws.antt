-- The areas of the workspace: where they end, how long they are. Assumes nothing.
use Prim.Native.Nat.{ℕ, ◌≤◌}
use mathlib.Core.Path.{◌≡◌, ◌∙◌}
use mathlib.Core.List.{List}
use native.Mathlib.Omega.{arith}
use lib.ListN.{length, take, drop, length-take, length-drop}
use Rattle.version.specs.Present.{FlagsKept}
use Rattle.version.specs.declared.Version.{Version}
use Rattle.version.proofs.AreaLaws.{lent, length_lent, lent_behind}
use Rattle.acting.specs.Ready.{Ready}

-- the first of them, lent and taken back
module _ (w : List ℕ) (wide : 400000 ≤ length w) where
  pub list_area_lem : length (take 200000 w) ≡ 200000
  list_area_lem = length-take 200000 w ∙ omega arith

  module _ (ys : List ℕ) (long : length ys ≡ 200000) where
    pub list_same : length (lent 0 200000 ys w) ≡ length w
    list_same = length_lent 0 200000 ys w long (omega arith)

    pub list_flags : FlagsKept w (lent 0 200000 ys w)
    list_flags = lent_behind 0 200000 ys w long (omega arith) 386000 (omega arith)

module _ (u w : List ℕ) (v : Version) (t from to : ℕ) (r : Ready u w v t from to) where
  pub wide_attr : 200000 ≤ length w
  wide_attr = let wide : 400000 ≤ length w = r.wide in omega arith

  pub wide_inas : 292000 ≤ length w
  wide_inas = let wide : 400000 ≤ length w = r.wide in omega arith

  pub wide_spas : 386000 ≤ length w
  wide_spas = let wide : 400000 ≤ length w = r.wide in omega arith

  pub attr_area : length (take 200000 w) ≡ 200000
  attr_area = list_area_lem w r.wide

  pub inas_area_lem : length (take 92000 (drop 200000 w)) ≡ 92000
  inas_area_lem = let wide : 400000 ≤ length w = r.wide in let rest = length-drop 200000 w in length-take 92000 (drop 200000 w) ∙ omega arith

  pub spas_area_lem : length (take 94000 (drop 292000 w)) ≡ 94000
  spas_area_lem = let wide : 400000 ≤ length w = r.wide in let rest = length-drop 292000 w in length-take 94000 (drop 292000 w) ∙ omega arith
