-- Laws of a walk over either side of a result, the old records or the inserted ones. Assumes nothing.
use Prim.Native.Nat.{ℕ, suc, ◌+◌, ◌-◌, ◌/◌, ◌≤◌, ◌<◌}
use mathlib.Core.Path.{◌≡◌, refl, sym, subst, ◌∙◌}
use mathlib.Core.Bool.{Bool, true, false}
use mathlib.Core.List.{List, ◌++◌}
use native.Mathlib.Omega.{arith}
use borrow.Author.Tests.{ltb-true, ltb-false}
use lib.Dec.{ltb}
use lib.ListN.{length}
use Rattle.std.specs.Prelude.{Result, Ok, Err}
use Rattle.skeleton.specs.File.{records_from}
use Rattle.skeleton.specs.Place.{between, fields_at}
use Rattle.skeleton.specs.Leader.{good}
use Rattle.skeleton.specs.Record.{stated_at}
use Rattle.skeleton.specs.declared.directory.Shape.{Shape}
use Rattle.skeleton.specs.declared.leader.Head.{Head}
use Rattle.skeleton.specs.declared.leader.Broken.{Broken}
use Rattle.rules.specs.Record.{Rec}
use Rattle.sequence.specs.Keyed.{Ordered}
use Rattle.sequence.specs.Stream.{kept_of, joined_of}
use Rattle.updates.specs.Acts.{chart}
use Rattle.keys.specs.Key.{key_at}
use Rattle.keys.specs.Look.{Sound}
use Rattle.stock.specs.Stock.{rec_in, stock_from}
use Rattle.version.specs.Areas.{flag_area}
use Rattle.version.specs.Present.{FlagsKept}
use Rattle.composing.proofs.ActsLaws.{turn_falls}
use Rattle.sorting.specs.Indices.{Spared}
use Rattle.sorting.specs.declared.limits.Limits.{Limits}
use Rattle.lasting.specs.Whole.{Whole, Old, New}
use Rattle.lasting.specs.Step.{Stepped}
use Rattle.lasting.specs.declared.Step.{Step}
use Rattle.lasting.specs.declared.Step.TheVariants.{Nothing, Loose, One}
use Rattle.lasting.proofs.WholeLaws.{whole_kept}
use Rattle.result.specs.Pass.{Within, pass_after, Passing, Few, Walked, Sparing, Clear}
use Rattle.result.specs.Side.{file_of, later_kind, StandsBy, Here, Ended, Stands, side_left, side_behind, side_one, Put, Onward, TurnedTo, Turned}
use Rattle.result.specs.declared.pass.Progress.{Progress}
use Rattle.result.proofs.PassLaws.{turned_by, passing_then, sparing_none, sparing_then, sparing_spared}
use Rattle.result.proofs.WalkLaws.{old_over, old_split, old_here, old_stop, old_next, new_over, new_split, new_here, new_next}

-- the record at p of a file, by the numbers of its leader
pub record Read (f : List ℕ) (p len : ℕ) (h : Shape) (key : ℕ) : Type 0 where
  pub inside : p < length f
  pub there : stated_at f p ≡ good len h
  pub number : key_at f (p + h.base) ≡ key

-- ---- side by side

pub ends_new : (old : Bool) → old ≡ false → (key q : ℕ) → old ≡ later_kind old key q
unfolding later_kind
ends_new old e key q = rw e

pub ends_old : (old : Bool) → old ≡ true → (key q : ℕ) → ltb q (key / 4294967296) ≡ later_kind old key q
unfolding later_kind
ends_old old e key q = rw e

module _ (d : List ℕ) (ds : ℕ) (u : List ℕ) (us : ℕ) (old : Bool) (p len : ℕ) (h : Shape) (key : ℕ) where
  pub here_old : old ≡ true → Here d ds u us old p len h key → Old d ds p len h key
  unfolding Here
  here_old e g = subst (λ (b : Bool). Here d ds u us b p len h key) e g

  pub here_new : old ≡ false → Here d ds u us old p len h key → New u us p len h key
  unfolding Here
  here_new e g = subst (λ (b : Bool). Here d ds u us b p len h key) e g

module _ (d : List ℕ) (ds : ℕ) (u : List ℕ) (us q : ℕ) where
  stands_sound : (old : Bool) (p : ℕ) → Stands d ds u us q old p → Sound (file_of old d u) p
  unfolding Stands file_of
  stands_sound true p g = g.sound
  stands_sound false p g = g.sound

  stands_over : (old : Bool) (p : ℕ) → Stands d ds u us q old p → length (file_of old d u) ≤ p → side_left d ds u us q old p ≡ side_behind d ds u us q old
  unfolding Stands file_of side_left side_behind
  stands_over true p g l = old_over d ds (suc q) p g l u us q
  stands_over false p g l = new_over u us p g l d ds q

  module _ (p len : ℕ) (h : Shape) (key : ℕ) where
    here_is : (old : Bool) → Stands d ds u us q old p → Read (file_of old d u) p len h key → Here d ds u us old p len h key
    unfolding Stands file_of Here
    here_is true g r = old_here d ds (suc q) p g r.inside (stated_at d p) refl (record { len = len; shape = h }) r.there key (sym r.number)
    here_is false g r = new_here u us p g r.inside (stated_at u p) refl (record { len = len; shape = h }) r.there key (sym r.number)

    here_split : (old : Bool) → Stands d ds u us q old p → Read (file_of old d u) p len h key
        → side_left d ds u us q old p ≡ side_one d ds u us q old p len h ++ side_left d ds u us q old (p + len)
    unfolding Stands file_of side_left side_one
    here_split true g r = old_split d ds (suc q) p g r.inside (stated_at d p) refl (record { len = len; shape = h }) r.there u us q
    here_split false g r = new_split u us p g r.inside (stated_at u p) refl (record { len = len; shape = h }) r.there d ds q

    -- it is of a later kind
    here_stop : (old : Bool) → Stands d ds u us q old p → Read (file_of old d u) p len h key → Ordered chart 1 (stock_from d ds) → later_kind old key q ≡ true
        → side_left d ds u us q old p ≡ side_behind d ds u us q old
    unfolding Stands file_of side_left side_behind later_kind
    here_stop true g r o e =
        old_stop d ds (suc q) p g r.inside (stated_at d p) refl (record { len = len; shape = h }) r.there key (sym r.number) q (ltb-true q (key / 4294967296) e) o u us
    here_stop false g r o e = absurd (let x : false ≡ true = e in let y : ◌≡◌ {A = ℕ} 0 1 = cc in omega arith)

    -- or it is passed
    here_next : (old : Bool) → Stands d ds u us q old p → Read (file_of old d u) p len h key → later_kind old key q ≡ false → Stands d ds u us q old (p + len)
    unfolding Stands file_of later_kind
    here_next true g r e =
        old_next d ds (suc q) p g r.inside (stated_at d p) refl (record { len = len; shape = h }) r.there key (sym r.number) q refl (ltb-false q (key / 4294967296) e)
    here_next false g r e = new_next u us p g r.inside (stated_at u p) refl (record { len = len; shape = h }) r.there

  -- ---- `make`

  module _ (old : Bool) (p len : ℕ) (h : Shape) (sure known : Bool) (z : known ≡ sure) (to : ℕ) (w o w' o' : List ℕ) (s : Step) where
    pub put_old : old ≡ true
        → Stepped d ds u us (flag_area w) known (kept_of chart q (records_from u us).items (rec_in (fields_at (between d p (p + len)) h 24))) to o o' s × FlagsKept w w'
        → Put d ds u us q old p len h sure to w o w' o' s
    unfolding side_one
    put_old e v = subst (λ (b : Bool). Put d ds u us q b p len h sure to w o w' o' s) (sym e) (subst (λ (c : Bool). Put d ds u us q true p len h c to w o w' o' s) z (record { made = v.0; flags = v.1 }))

    pub put_new : old ≡ false
        → Stepped d ds u us (flag_area w) known (joined_of chart q (fields_at (between u p (p + len)) h 24) (records_from u (p + len)).items) to o o' s × FlagsKept w w'
        → Put d ds u us q old p len h sure to w o w' o' s
    unfolding side_one
    put_new e v = subst (λ (b : Bool). Put d ds u us q b p len h sure to w o w' o' s) (sym e) (subst (λ (c : Bool). Put d ds u us q false p len h c to w o w' o' s) z (record { made = v.0; flags = v.1 }))

  -- ---- `turn`

  module _ (old : Bool) (f : List ℕ) (e : f ≡ file_of old d u) (g : Progress) (i : Within 4294967296 g) (st : Stands d ds u us q old g.next) where
    pub turn_sound : Sound f g.next
    turn_sound = subst (λ (k : List ℕ). Sound k g.next) (sym e) (stands_sound old g.next st)

    module _ (l : g.next < length f) (m : Result Head Broken) (em : m ≡ stated_at f g.next) (head : Head) (x : m ≡ Ok head) (key : ℕ) (ek : key ≡ key_at f (g.next + head.shape.base)) where
      read : Read (file_of old d u) g.next head.len head.shape key
      read = subst (λ (k : List ℕ). Read k g.next head.len head.shape key) e (record { inside = l; there = sym em ∙ x; number = sym ek })

      pub turn_here : Here d ds u us old g.next head.len head.shape key
      turn_here = here_is g.next head.len head.shape key old st read

      falls : length (file_of old d u) - (g.next + head.len) < length (file_of old d u) - g.next
      falls = subst (λ (k : List ℕ). length k - (g.next + head.len) < length k - g.next) e (turn_falls f g.next turn_sound l m em head x)

      module _ (over : Bool) (eo : over ≡ later_kind old key q) where
        -- it stands still
        pub turn_stop : over ≡ true → Ordered chart 1 (stock_from d ds) → (w o : List ℕ) → Turned d ds u us q old g w o w o (Ok g)
        unfolding TurnedTo Passing Within
        turn_stop y z w o =
            let still : Onward d ds u us q old g g o o = record { stands = st; passing = λ at first v. v; forward = omega arith; few = omega arith; room = i.1; spares = sparing_none g o } in
            record { turned = (still, λ same. here_stop g.next head.len head.shape key old st read z (sym eo ∙ y)); flags = refl }

        -- or goes on
        module _ (y : over ≡ false) (t : List ℕ) (n : ℕ) (map w : List ℕ) (whole : Whole d ds t n map u us w) (lim : Limits) (clear : Clear d ds u us lim) (o w' o' : List ℕ) where
          went : (h : Progress) → h.next ≡ g.next + head.len → Walked d ds u us (side_left d ds u us q old g.next) (side_left d ds u us q old (g.next + head.len)) 1 g o o' (Ok h)
              → TurnedTo d ds u us q old g o o' (Ok h)
          unfolding TurnedTo Few Within
          went h eh v =
              let z : Onward d ds u us q old g h o o' = record {
                stands = subst (λ (p : ℕ). Stands d ds u us q old p) (sym eh) (here_next g.next head.len head.shape key old st read (sym eo ∙ y));
                passing = subst (λ (p : ℕ). Passing d ds u us (side_left d ds u us q old g.next) (side_left d ds u us q old p) g o o' (Ok h)) (sym eh) v.passing;
                forward = omega (arith, eh);
                few = let b = v.few.0 in let c = falls in omega (arith, eh);
                room = v.few.1;
                spares = v.spares;
              } in
              (z, λ same. absurd (let c = falls in omega (arith, eh, same)))

          walked : (s : Step) → Put d ds u us q old g.next head.len head.shape lim.sure g.to w o w' o' s
              → Walked d ds u us (side_left d ds u us q old g.next) (side_left d ds u us q old (g.next + head.len)) 1 g o o' (pass_after s g (g.next + head.len))
          unfolding Clear
          walked s v =
              subst (λ (k : List Rec). Walked d ds u us k (side_left d ds u us q old (g.next + head.len)) 1 g o o' (pass_after s g (g.next + head.len)))
              (sym (here_split g.next head.len head.shape key old st read))
              (turned_by d ds u us t n map w whole (side_one d ds u us q old g.next head.len head.shape) g i o o' (g.next + head.len) (side_left d ds u us q old (g.next + head.len)) lim.sure clear s v.made)

          turned_to : (s : Step) → Put d ds u us q old g.next head.len head.shape lim.sure g.to w o w' o' s → TurnedTo d ds u us q old g o o' (pass_after s g (g.next + head.len))
          unfolding pass_after
          turned_to Nothing v = went _ refl (walked Nothing v)
          turned_to Loose v = unfold TurnedTo Passing in λ later. (walked Loose v).passing
          turned_to (One to) v = went _ refl (walked (One to) v)

          pub turn_on : (s : Step) → Put d ds u us q old g.next head.len head.shape lim.sure g.to w o w' o' s → (r : Result Progress ℕ) → r ≡ pass_after s g (g.next + head.len)
              → Turned d ds u us q old g w o w' o' r
          turn_on s v r er = record { turned = subst (λ (k : Result Progress ℕ). TurnedTo d ds u us q old g o o' k) (sym er) (turned_to s v); flags = v.flags }

  -- ---- `walk`

  -- the walk went from a on to g, from where the workspace was w and the output o
  pub record Walking (t : List ℕ) (n : ℕ) (map : List ℕ) (old : Bool) (a g : Progress) (w o w' o' : List ℕ) : Type 0 where
    pub onward : Onward d ds u us q old a g o o'
    pub whole : Whole d ds t n map u us w'
    pub flags : FlagsKept w w'

  module _ (t : List ℕ) (n : ℕ) (map : List ℕ) (old : Bool) (a : Progress) (i : Within 2147483648 a) (w o : List ℕ) where
    pub walk_start : Stands d ds u us q old a.next → Whole d ds t n map u us w → Walking t n map old a a w o w o
    unfolding Passing Within
    walk_start st y =
        record { onward = record { stands = st; passing = λ at first v. v; forward = omega arith; few = omega arith; room = i.1; spares = sparing_none a o }; whole = y; flags = refl }

    module _ (g : Progress) (w' o' : List ℕ) (v : Walking t n map old a g w o w' o') where
      small : length (file_of old d u) ≤ 16777216
      small = (stands_sound old g.next v.onward.stands).small

      pub walk_within : Within 4294967296 g
      unfolding Within
      walk_within = let f = v.onward.few in let s = small in let c = i.0 in (omega arith, v.onward.room)

      -- the indices that are left
      pub walk_spared : (lim : Limits) → Spared d ds u us lim a.to o → Spared d ds u us lim g.to o'
      walk_spared lim s = sparing_spared d ds u us lim a g o o' v.onward.spares s

      ended : side_left d ds u us q old g.next ≡ side_behind d ds u us q old
          → Ended d ds u us (side_left d ds u us q old a.next) (side_behind d ds u us q old) 16777216 (Stands d ds u us q old) a w o w' o' (Ok g)
      unfolding Few Within StandsBy
      ended e = record {
        walked = record {
          passing = subst (λ (l : List Rec). Passing d ds u us (side_left d ds u us q old a.next) l a o o' (Ok g)) e v.onward.passing;
          few = let f = v.onward.few in let s = small in (omega arith, v.onward.room);
          spares = v.onward.spares;
        };
        stands = v.onward.stands;
        flags = v.flags;
      }

      -- the file ends
      pub walk_over : (f : List ℕ) → f ≡ file_of old d u → length f ≤ g.next
          → Ended d ds u us (side_left d ds u us q old a.next) (side_behind d ds u us q old) 16777216 (Stands d ds u us q old) a w o w' o' (Ok g)
      walk_over f e l = ended (stands_over old g.next v.onward.stands (subst (λ (k : List ℕ). length k ≤ g.next) e l))

      module _ (w'' o'' : List ℕ) (r : Result Progress ℕ) (b : Turned d ds u us q old g w' o' w'' o'' r) where
        pub walk_loose : (k : ℕ) → r ≡ Err k
            → Ended d ds u us (side_left d ds u us q old a.next) (side_behind d ds u us q old) 16777216 (Stands d ds u us q old) a w o w'' o'' (Err k)
        unfolding TurnedTo Few StandsBy Sparing
        walk_loose k x =
            let c : TurnedTo d ds u us q old g o' o'' (Err k) = subst (λ (p : Result Progress ℕ). TurnedTo d ds u us q old g o' o'' p) x b.turned in
            record {
              walked = record {
                passing = passing_then d ds u us (side_left d ds u us q old a.next) (side_left d ds u us q old g.next) (side_behind d ds u us q old) a g o o' o'' v.onward.passing (Err k) (c (side_behind d ds u us q old));
                few = tt;
                spares = tt;
              };
              stands = tt;
              flags = b.flags ∙ v.flags;
            }

        module _ (h : Progress) (x : r ≡ Ok h) where
          turned : TurnedTo d ds u us q old g o' o'' (Ok h)
          turned = subst (λ (p : Result Progress ℕ). TurnedTo d ds u us q old g o' o'' p) x b.turned

          pub walk_less : (f : List ℕ) → f ≡ file_of old d u → g.next < length f → (h.next ≡ g.next → ⊥) → length f - h.next < length f - g.next
          unfolding TurnedTo
          walk_less f e l moved = let c = turned.0.forward in omega (arith, moved)

          pub walk_on : length w'' ≡ length w' → Walking t n map old a h w o w'' o''
          unfolding TurnedTo
          walk_on k =
              let c = turned.0 in
              record {
                onward = record {
                  stands = c.stands;
                  passing = passing_then d ds u us (side_left d ds u us q old a.next) (side_left d ds u us q old g.next) (side_left d ds u us q old h.next) a g o o' o'' v.onward.passing (Ok h) c.passing;
                  forward = let y = v.onward.forward in let z = c.forward in omega arith;
                  few = let y = v.onward.few in let z = c.few in omega arith;
                  room = c.room;
                  spares = sparing_then a g o o' o'' v.onward.spares (Ok h) c.spares;
                };
                whole = whole_kept d ds t n map u us w' v.whole w'' b.flags k;
                flags = b.flags ∙ v.flags;
              }

          -- no record further
          pub walk_stop : h.next ≡ g.next
              → Ended d ds u us (side_left d ds u us q old a.next) (side_behind d ds u us q old) 16777216 (Stands d ds u us q old) a w o w'' o'' (Ok h)
          unfolding TurnedTo Few Within StandsBy
          walk_stop same =
              let c = turned.0 in
              record {
                walked = record {
                  passing = passing_then d ds u us (side_left d ds u us q old a.next) (side_left d ds u us q old g.next) (side_behind d ds u us q old) a g o o' o'' v.onward.passing (Ok h)
                      (subst (λ (l : List Rec). Passing d ds u us (side_left d ds u us q old g.next) l g o' o'' (Ok h)) (turned.1 same) c.passing);
                  few = let y = v.onward.few in let z = c.few in let s = small in (omega arith, c.room);
                  spares = sparing_then a g o o' o'' v.onward.spares (Ok h) c.spares;
                };
                stands = c.stands;
                flags = b.flags ∙ v.flags;
              }
