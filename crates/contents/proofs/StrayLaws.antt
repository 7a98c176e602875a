-- Laws of keys that are not above all earlier ones. Assumes nothing.
use mathlib.Core.Path.{◌≡◌, refl, sym, ◌∙◌}
use mathlib.Core.List.{List}
use mathlib.Core.Bool.{Bool, true, false}
use Prim.Native.Nat.{ℕ, ◌+◌, ◌*◌, ◌/◌, ◌≤◌, ◌<◌}
use native.Mathlib.Omega.{arith}
use lib.ListN.{length, get_or, take, drop}
use Rattle.std.specs.Prelude.{Option, Some, None, Ok}
use Rattle.base.specs.Choice.{larger_of}
use Rattle.fields.specs.Bytes.{le}
use Rattle.fields.specs.Table.{head_of, tuple_of}
use Rattle.fields.specs.Content.{fill}
use Rattle.fields.specs.declared.Format.TheVariants.{Spas}
use Rattle.skeleton.specs.Directory.{tag_at}
use Rattle.skeleton.specs.Place.{between, place_at, fields_at}
use Rattle.skeleton.specs.RightFrom.{RightFrom}
use Rattle.skeleton.specs.declared.directory.Shape.{Shape}
use Rattle.skeleton.specs.declared.place.Place.{Place}
use Rattle.skeleton.proofs.PlaceLaws.{held, place_runs, place_in_lem}
use Rattle.rules.specs.Tags.{INAS}
use Rattle.rules.specs.ByTag.{front, has}
use Rattle.contents.specs.Fit.{all_fit}
use Rattle.contents.specs.Keys.{said_by, once_from}
use Rattle.contents.proofs.NewLaws.{new_above, inas_first_one}
use Rattle.contents.proofs.EarlierLaws.{spas_filled}
use Rattle.contents.proofs.FitLaws.{fit_here}
use Rattle.contents.proofs.SpasLaws.{spas_top, spas_more, spas_over}
use Rattle.contents.proofs.OnceLaws.{once_inas, once_spas, once_other, entry_there, entry_not, keys_before, keys_start, informed_start, keys_end, keys_counts, keys_word, keys_fit, keys_place, keys_informed, keys_more, keys_top}
use Rattle.skeleton.proofs.RightLaws.{right_in, right_tag, right_on, right_word, right_falls}
use Rattle.contents.specs.Strays.{Risen, SpasRises, FieldRises, Level}
use Rattle.contents.specs.declared.strays.Strays.{Strays}

-- ---- a SPAS, behind j tuples

pub risen_none : (b : List ℕ) (largest before : ℕ) → Risen b largest before 0 largest before
unfolding Risen
risen_none b largest before z = (z, λ r h p n e. (e, refl))

module _ (b : List ℕ) (f : fill (head_of Spas) (tuple_of Spas) b ≡ true) (j largest before top count : ℕ)
    (k : Risen b largest before j top count) where
  pub risen_more : j < length b / 15 → (x y : ℕ) → x ≡ le 1 (drop (15 * j) b) → y ≡ le 4 (drop (15 * j + 1) b)
      → (new more : ℕ) → new ≡ larger_of top (x * 4294967296 + y) → (more ≡ 0 → (count ≡ 0) × (top < x * 4294967296 + y))
      → Risen b largest before (j + 1) new more
  unfolding Risen
  risen_more g x y ex ey new more en em z =
      let m = em z in
      let i = k m.0 in (
        i.0,
        λ r h p n e.
            let o = i.1 r h p n e in (
              spas_top b f j g x y ex ey r h p n top new o.0 en,
              spas_more b f j g x y ex ey r h p n top _ o.1 true (new_above r h p n b j x y top o.0 _ refl m.1) refl new en,
            ),
      )

  pub risen_over : length b / 15 ≤ j → (s : Strays) → s.top ≡ largest → s.count ≡ before → SpasRises b s (record { top = top; count = count })
  unfolding said_by Risen SpasRises
  risen_over m s et ec z =
      let i = k z in
      (ec ∙ i.0, λ r h p n e. rw et (spas_over b f j m r h p n top _ (i.1 r h p n (sym et ∙ e)).1))

pub ruleset spas_risen = (risen_none, risen_more, risen_over, arith)

-- ---- a field, at the entry q

module _ (r : List ℕ) (h : Shape) (q tag : ℕ) (informed : Bool) (s : Strays) where
  pub rises_not : (top more : ℕ) → 0 < more → FieldRises r h q tag informed s (record { top = top; count = more })
  unfolding FieldRises
  rises_not top more l z = absurd (omega arith)

  pub rises_first : tag ≡ 0x494e4153 → informed ≡ false → FieldRises r h q tag informed s s
  unfolding said_by FieldRises
  rises_first t i z = (z, λ p n ei et. once_inas r h p n tag (front (fields_at r h q)) s.top t _ (inas_first_one r h p n (front (fields_at r h q)) s.top informed ei i))

  module _ (n : tag ≡ 0x494e4153 → ⊥) where
    pub rises_other : (tag ≡ 0x53504153 → ⊥) → FieldRises r h q tag informed s s
    unfolding said_by FieldRises
    rises_other o z = (z, λ p m ei et. once_other r h p m tag (front (fields_at r h q)) s.top n o)

    module _ (et : tag ≡ tag_at r q) (e : Option Place) (en : e ≡ place_at r h q) where
      pub rises_spas : tag ≡ 0x53504153 → (d : Place) → e ≡ Some d → (s' : Strays) → SpasRises (between r d.start d.end) s s'
          → FieldRises r h q tag informed s s'
      unfolding FieldRises SpasRises
      rises_spas t d x s' k z =
          let w : d.tag ≡ tag = (held r h q e en d x).tag_is ∙ sym et in (
            (k z).0,
            λ p m ei ep.
                entry_there r h p m q tag s.top et e en d x _
                (once_spas r h p m d.tag (between r d.start d.end) s.top (λ y. n (sym w ∙ y)) (w ∙ t) _ ((k z).1 r h p m (keys_before r h p m s.top (between r d.start d.end) ep))),
          )

      pub rises_never : RightFrom r h q → (get_or r q 0 ≡ 30 → ⊥) → e ≡ None → FieldRises r h q tag informed s s
      unfolding FieldRises
      rises_never w o x z = (z, λ p m ei ep. entry_not r h p m q tag s.top et e en w o x _)

pub spas_here : (r : List ℕ) (h : Shape) (q tag : ℕ) → tag ≡ tag_at r q → (e : Option Place) → e ≡ place_at r h q → (d : Place) → e ≡ Some d
    → all_fit false (fields_at r h q) ≡ true → tag ≡ 0x53504153 → fill (head_of Spas) (tuple_of Spas) (between r d.start d.end) ≡ true
spas_here r h q tag et e en d x f t =
    spas_filled (between r d.start d.end) d.tag (fit_here r h q e en d x false f) ((held r h q e en d x).tag_is ∙ sym et ∙ t)

pub ruleset field_rises = (rises_not, rises_first, rises_other, rises_spas, rises_never, spas_here, place_runs, place_in_lem, arith)

-- ---- the fields, behind n of them at the entry q

pub level_none : (r : List ℕ) (h : Shape) (p : ℕ) → Level r h p 0 (record { top = 0; count = 0 })
unfolding Level
level_none r h p z = (keys_start r h p, refl)

module _ (r : List ℕ) (h : Shape) (p n q : ℕ) (ed : drop n (fields_at r h p) ≡ fields_at r h q) (w : RightFrom r h q) (s : Strays) (k : Level r h p n s) where
  pub level_more : (get_or r q 0 ≡ 30 → ⊥) → (tag : ℕ) → tag ≡ tag_at r q → (informed : Bool) → informed ≡ has INAS (take n (fields_at r h p)) → (s' : Strays)
      → FieldRises r h q tag informed s s' → Level r h p (n + 1) s'
  unfolding said_by Level FieldRises
  level_more o tag et informed ei s' f z =
      let j = f z in
      let i = k j.0 in
      let e = j.1 p n ei i.0 in
      (keys_top r h p n q ed w o tag et s.top (Ok s'.top) e i.0 s'.top refl, keys_more r h p n q ed w o tag et s.top (Ok s'.top) e _ i.1 s'.top refl)

  pub level_end : get_or r q 0 ≡ 30 → s.count ≡ 0 → once_from r h p 0 ≡ Ok tt
  unfolding Level
  level_end y z = sym (keys_end r h p n q ed w _ (k z).1 y)

pub ruleset level_turn = (level_none, level_more, informed_start, keys_counts, keys_word, keys_fit, keys_place, keys_informed, right_in, right_tag, right_on, right_word, right_falls)
