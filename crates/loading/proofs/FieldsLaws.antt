-- The fields of a record loaded one after the other. Assumes nothing.
use Prim.Native.Nat.{ℕ, ◌+◌, ◌-◌, ◌^◌, ◌≤◌, ◌<◌}
use mathlib.Core.Path.{◌≡◌, refl, sym, ap, ◌∙◌, subst}
use mathlib.Core.List.{List, ◌∷◌}
use native.Mathlib.Omega.{arith}
use lib.ListN.{length, drop}
use Rattle.std.specs.Prelude.{Option, Some, None}
use Rattle.base.specs.Lists.{Each}
use Rattle.skeleton.specs.Emit.{size, sizes}
use Rattle.skeleton.specs.File.{Field}
use Rattle.skeleton.specs.Place.{between, place_at, fields_at}
use Rattle.skeleton.specs.declared.directory.Shape.{Shape}
use Rattle.skeleton.specs.declared.place.Place.{Place}
use Rattle.skeleton.proofs.PlaceLaws.{place_falls, place_runs, place_in_lem, fields_done}
use Rattle.skeleton.proofs.BetweenLaws.{length_between, fields_within}
use Rattle.rules.specs.Record.{Rec}
use Rattle.rules.specs.Written.{field_as}
use Rattle.rules.specs.declared.Kind.{Kind}
use Rattle.items.specs.Items.{source}
use Rattle.version.specs.Held.{Held}
use Rattle.version.specs.declared.Version.{Version}
use Rattle.loading.specs.Taken.{take_field, take_fields}
use Rattle.loading.specs.Loads.{Fits, Room, Loads, LoadsAll, Took, TookAll}

-- ---- the loop

-- of the fields from p on those before q are loaded
pub record LoadAt (b : List ℕ) (at len : ℕ) (h : Shape) (x p : ℕ) (w₀ : List ℕ) (v₀ : Version) (w : List ℕ) (q : ℕ) (v : Version) : Type 0 where
  pub loads : LoadsAll b at len (fields_at (between b at (at + len)) h q) v w
  pub long : length w ≡ length w₀
  pub kept : (d u : List ℕ) (r : Rec) → source x d u ≡ b → Held d u w₀ v₀ r
      → (s : Rec) × Held d u w v s × (take_fields (fields_at (between b at (at + len)) h q) s ≡ take_fields (fields_at (between b at (at + len)) h p) r)
  pub others : drop 386000 w ≡ drop 386000 w₀

pub load_start : (b : List ℕ) (at len : ℕ) (h : Shape) (x p : ℕ) (w : List ℕ) (v : Version)
    → LoadsAll b at len (fields_at (between b at (at + len)) h p) v w → LoadAt b at len h x p w v w p v
load_start b at len h x p w v l = record { loads = l; long = refl; kept = λ d u r e y. (r, y, refl); others = refl }

module _ (b : List ℕ) (at len : ℕ) (h : Shape) (x p : ℕ) (w₀ : List ℕ) (v₀ : Version) (w : List ℕ) (q : ℕ) (v : Version) (s : LoadAt b at len h x p w₀ v₀ w q v) where
  abbrev rs : List ℕ
  rs = between b at (at + len)

  pub load_inside : at + len ≤ length b
  load_inside = s.loads.inside

  pub load_word : at + len < 2 ^ 64
  load_word = omega (arith, s.loads.inside, s.loads.small)

  module _ (e : Option Place) (en : e ≡ place_at (between b at (at + len)) h q) where
    -- there are no more
    pub load_done : e ≡ None → TookAll b x (fields_at (between b at (at + len)) h p) w₀ v₀ w v
    unfolding take_fields
    load_done y =
        record {
          held = λ d u r z k.
              let (m, have, is) = s.kept d u r z k in
              subst (Held d u w v) (sym (ap (λ (fs : List Field). take_fields fs m) (fields_done rs h q e en y)) ∙ is) have;
          others = s.others;
        }

    -- there is one
    module _ (d : Place) (y : e ≡ Some d) where
      long_is : length rs ≡ len
      long_is = length_between b at (at + len) s.loads.inside ∙ omega arith

      runs : d.start ≤ d.end
      runs = place_runs rs h q e en d y

      within : d.end ≤ len
      within = omega (arith, place_in_lem rs h q e en d y, long_is)

      abbrev here : Field
      here = field_as d.tag (between b (at + d.start) (at + d.end))

      abbrev rest : List Field
      rest = fields_at rs h d.next

      fields_are : fields_at rs h q ≡ here ∷ rest
      fields_are = fields_within b at len h q e en d y within

      fits_here : Fits v.kind here × Each (Fits v.kind) rest
      unfolding Each
      fits_here = subst (Each (Fits v.kind)) fields_are s.loads.fits

      room_here : Room v (size here + sizes rest)
      unfolding sizes
      room_here = subst (λ (fs : List Field). Room v (sizes fs)) fields_are s.loads.room

      pub load_falls : length (between b at (at + len)) - d.next < length (between b at (at + len)) - q
      load_falls = place_falls rs h q e en d y

      pub load_from : at + d.start < 2 ^ 64
      load_from = omega (arith, runs, within, load_word)

      pub load_to : at + d.end < 2 ^ 64
      load_to = omega (arith, within, load_word)

      pub load_ready : Loads b d.tag (at + d.start) (at + d.end) v w
      load_ready =
          let r = room_here in
          record {
            runs = omega (arith, runs);
            inside = omega (arith, within, s.loads.inside);
            small = s.loads.small;
            bytes = s.loads.bytes;
            wide = s.loads.wide;
            fits = fits_here.0;
            room = record { inas = omega (arith, r.inas); coord = omega (arith, r.coord); spas = omega (arith, r.spas); bytes = omega (arith, r.bytes) };
          }

      pub load_turn : (o : List ℕ) (r : Version) → length o ≡ length w → Took b x (field_as d.tag (between b (at + d.start) (at + d.end))) w v o r → LoadAt b at len h x p w₀ v₀ o d.next r
      unfolding take_fields
      load_turn o r lo t =
          record {
            loads = record {
              inside = s.loads.inside;
              small = s.loads.small;
              bytes = s.loads.bytes;
              wide = omega (arith, lo, s.loads.wide);
              fits = subst (λ (k : Kind). Each (Fits k) rest) (sym t.kind) fits_here.1;
              room = t.room (sizes rest) room_here;
            };
            long = lo ∙ s.long;
            kept = λ d u a z k.
                let (m, have, is) = s.kept d u a z k in
                (take_field here m, t.held d u m z have, sym (ap (λ (fs : List Field). take_fields fs m) fields_are) ∙ is);
            others = t.others ∙ s.others;
          }

pub ruleset fields_ways = (load_start, load_inside, load_word, load_done, load_falls, load_from, load_to, load_ready, load_turn, arith)
