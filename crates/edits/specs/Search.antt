-- Searches among the items, by index.
use Rattle.std.specs.Prelude.{List, [], Bool, false, not, ℕ, zero, suc, ◌+◌, ◌-◌, ◌*◌, ltb, eqb, Option, Some, None}
use Rattle.base.specs.Choice.{pick}
use Rattle.memory.specs.Splice.{spliced_in}
use Rattle.items.specs.Items.{depth_of, twin_at}

-- ---- what a search answers

-- index i, where it is less than n, else none
unfoldable pub found_in : ℕ → ℕ → Option ℕ
found_in n i = pick (ltb i n) (Some i) None

-- ---- number k of code c in the run of depth d

-- among at most m items from i on; n where there is none
unfoldable pub place_up_to : ℕ → List ℕ → ℕ → ℕ → ℕ → ℕ → ℕ → ℕ
place_up_to zero w i n d c k = n
place_up_to (suc m) w i n d c k =
    let on = place_up_to m w (i + 1) n d c k in
    let again = place_up_to m w (i + 1) n d c (k - 1) in
    pick (ltb i n) (pick (ltb (depth_of w i) d) n (pick (eqb (twin_at w i d c) 1) (pick (eqb k 1) i again) on)) n

-- from i up to n; n where there is none
unfoldable pub place_of : List ℕ → ℕ → ℕ → ℕ → ℕ → ℕ → ℕ
place_of w i n d c k = place_up_to (n - i) w i n d c k

-- ---- past the items of depth d or more

-- of at most m items from i on
unfoldable pub end_up_to : ℕ → List ℕ → ℕ → ℕ → ℕ → ℕ
end_up_to zero w i n d = n
end_up_to (suc m) w i n d = let on = end_up_to m w (i + 1) n d in pick (ltb i n) (pick (ltb (depth_of w i) d) i on) n

-- from i up to n
unfoldable pub end_of : List ℕ → ℕ → ℕ → ℕ → ℕ
end_of w i n d = end_up_to (n - i) w i n d

-- ---- how many items of code c the run of depth d has

-- among at most m items from i on
unfoldable pub twins_up_to : ℕ → List ℕ → ℕ → ℕ → ℕ → ℕ → ℕ
twins_up_to zero w i n d c = 0
twins_up_to (suc m) w i n d c = let on = twin_at w i d c + twins_up_to m w (i + 1) n d c in pick (ltb i n) (pick (ltb (depth_of w i) d) 0 on) 0

-- from i up to n
unfoldable pub twins : List ℕ → ℕ → ℕ → ℕ → ℕ → ℕ
twins w i n d c = twins_up_to (n - i) w i n d c

-- ---- where a new item of code c goes

-- after the last of m items of its code and what is below it; where there is none, at the end of the run
unfoldable pub behind_last : List ℕ → ℕ → ℕ → ℕ → ℕ → ℕ → ℕ
behind_last w i n d c m = pick (eqb m 0) (end_of w i n d) (end_of w (place_of w i n d c m + 1) n (d + 1))

-- as number k of m
unfoldable pub spot_of : List ℕ → ℕ → ℕ → ℕ → ℕ → ℕ → ℕ → ℕ
spot_of w i n d c k m = pick (eqb k 0) (behind_last w i n d c m) (pick (ltb m k) (behind_last w i n d c m) (place_of w i n d c k))

-- as number k; past the end of the items, where there are too few for that
unfoldable pub seat_of : List ℕ → ℕ → ℕ → ℕ → ℕ → ℕ → ℕ
seat_of w i n d c k = pick (ltb (twins w i n d c + 1) k) (n + 1) (spot_of w i n d c k (twins w i n d c))

-- behind twin number m from j on and what is below it; e where there is none
unfoldable pub behind_mark : List ℕ → ℕ → ℕ → ℕ → ℕ → ℕ → ℕ → ℕ
behind_mark w n d c e j m = pick (eqb m 0) e (end_of w (place_of w j n d c m + 1) n (d + 1))

-- ---- what is below an item

-- there is an item of depth d or more at j
unfoldable pub deeper_at : List ℕ → ℕ → ℕ → ℕ → Bool
deeper_at w n j d = pick (ltb j n) (not (ltb (depth_of w j) d)) false

-- how many items go with item i of depth d
unfoldable pub gone_count : List ℕ → ℕ → ℕ → ℕ → ℕ
gone_count w n i d = end_of w (i + 1) n (d + 1) - i

-- the bytes without them
unfoldable pub gone_out : List ℕ → ℕ → ℕ → ℕ → List ℕ
gone_out w n i d = spliced_in (8 * n) (8 * i) (8 * gone_count w n i d) [] w
