-- Samples beside P1 to P10 that shut out wrong readings: lengths, places of faults, and the order of refusals. Assumes nothing.
use mathlib.Core.Path.{refl}
use mathlib.Core.List.{List, [], ◌∷◌}
use Rattle.base.specs.Text.{ascii}
use Rattle.rules.specs.Tags.{DSSI, ATCS}
use Rattle.rules.proofs.Builders.{irid, mrid, frid, foid, tuple, attr, inas, link, spas, cocc, at, c2il, general, filler, point_sent, multi_sent, point, multi, three, many, feature, listed}
use Rattle.rules.proofs.Samples.{accepts, applies, versions_after, updates, length_of, writes, prints, prints_of, fine, refused_in, refused_at, numbers, text, Row, row, Hold, samples_opened}
use Rattle.rules.specs.declared.Mode.TheVariants.{InDataset, InUpdate}

-- ---- written lengths: 71, 48, 63+8n

-- a point, multi points of no and of three tuples
pub lengths : List Row
lengths =
    row (length_of point) (numbers (71 ∷ []))
    ∷ row (length_of (multi 1 [])) (numbers (48 ∷ []))
    ∷ row (length_of (multi 1 three)) (numbers (87 ∷ []))
    ∷ []

-- each of them
pub lengths_hold : Hold lengths
unfolding lengths samples_opened
lengths_hold = refl

-- ---- the longest record: 12,492 tuples

-- multi points of 12,492 and 12,493 tuples, and one of 12,490 to which two and three are added
pub longest : List Row
longest =
    row (length_of (multi 1 (many 12492))) (numbers (99999 ∷ []))
    ∷ row (writes (multi 1 (many 12492))) fine
    ∷ row (length_of (multi 1 (many 12493))) (numbers (100007 ∷ []))
    ∷ row (writes (multi 1 (many 12493))) (refused_in 12 0 0)
    ∷ row (applies (multi 1 (many 12490)) (mrid 2 3 ∷ cocc 1 1 2 ∷ c2il (many 2) ∷ [])) fine
    ∷ row (applies (multi 1 (many 12490)) (mrid 2 3 ∷ cocc 1 1 3 ∷ c2il (many 3) ∷ [])) (refused_in 12 0 0)
    ∷ []

-- each of them
pub longest_hold : Hold longest
unfolding longest samples_opened
longest_hold = refl

-- ---- versions: beside P7, P8, P10

-- RCID 7, UPDN one more, and RVERs that do not follow
pub versions : List Row
versions =
    row (accepts InDataset (point_sent 7)) fine
    ∷ row (updates (general 3 []) [] (general 4 []) []) fine
    ∷ row (updates (general 3 []) [] (general 5 []) []) (refused_at 8 2 2)
    ∷ row (versions_after (multi 4 three ∷ []) ((mrid 4 3 ∷ []) ∷ [])) (refused_at 10 2 3)
    ∷ row (versions_after (multi 4 three ∷ []) ((mrid 5 3 ∷ []) ∷ (mrid 5 3 ∷ []) ∷ [])) (refused_at 10 2 4)
    ∷ row (versions_after (multi 4 three ∷ []) ((mrid 6 3 ∷ []) ∷ [])) (refused_at 10 2 3)
    ∷ row (versions_after (multi 4 three ∷ []) ((mrid 5 2 ∷ []) ∷ (mrid 1 1 ∷ []) ∷ [])) (numbers (1 ∷ []))
    ∷ row (versions_after (multi 4 three ∷ []) ((mrid 5 2 ∷ []) ∷ (mrid 6 3 ∷ []) ∷ [])) (refused_at 9 2 4)
    ∷ []

-- each of them
pub versions_hold : Hold versions
unfolding versions samples_opened
versions_hold = refl

-- ---- where in a record on its own the fault is

-- number, field, tuple
pub places : List Row
places =
    row (accepts InDataset (irid 1 ∷ attr (tuple 1 1 0 1 [] ∷ tuple 2 1 1 1 [] ∷ tuple 3 2 1 1 [] ∷ []) ∷ [])) (refused_in 6 2 3)
    ∷ row (accepts InDataset (irid 1 ∷ attr (tuple 1 1 0 1 (ascii "A") ∷ tuple 2 1 1 1 [] ∷ tuple 3 2 1 1 [] ∷ []) ∷ [])) (refused_in 6 2 2)
    ∷ row (accepts InDataset (irid 1 ∷ attr (tuple 1 1 0 1 [] ∷ tuple 2 1 1 1 [] ∷ tuple 2 1 3 1 [] ∷ []) ∷ [])) (refused_in 6 2 3)
    ∷ row (accepts InDataset (irid 1 ∷ attr (tuple 1 1 0 1 [] ∷ tuple 2 0 1 1 [] ∷ tuple 3 2 1 1 [] ∷ []) ∷ [])) (refused_in 5 2 2)
    ∷ row (accepts InDataset (irid 1 ∷ attr (tuple 1 1 0 1 [] ∷ []) ∷ inas 1 1 [] ∷ inas 1 1 [] ∷ [])) (refused_in 7 4 0)
    ∷ row (accepts InDataset (irid 1 ∷ inas 1 1 [] ∷ attr [] ∷ [])) (refused_in 4 3 0)
    ∷ row (accepts InDataset (irid 2 ∷ attr (tuple 1 1 0 2 [] ∷ []) ∷ [])) (refused_in 5 1 0)
    ∷ row (accepts InDataset (frid 77 1 1 ∷ foid 3 ∷ spas (link 110 7 1 1 ∷ []) ∷ spas (link 115 7 1 1 ∷ link 110 7 2 1 ∷ []) ∷ [])) (refused_in 7 4 2)
    ∷ row (accepts InDataset (frid 77 1 1 ∷ foid 3 ∷ spas (link 110 7 1 1 ∷ link 115 7 3 1 ∷ []) ∷ [])) (refused_in 5 3 2)
    ∷ row (accepts InDataset (frid 77 1 1 ∷ [])) (refused_in 4 0 0)
    ∷ row (accepts InUpdate (frid 77 1 3 ∷ inas 1 2 [] ∷ inas 1 1 (tuple 1 1 0 3 [] ∷ []) ∷ [])) (refused_in 5 3 1)
    ∷ row (accepts InUpdate (frid 77 1 3 ∷ attr (tuple 1 1 0 2 [] ∷ tuple 2 1 1 1 [] ∷ []) ∷ [])) (refused_in 6 2 2)
    ∷ row (accepts InUpdate (frid 77 1 2 ∷ foid 3 ∷ [])) (refused_in 4 2 0)
    ∷ row (accepts InUpdate (mrid 1 3 ∷ cocc 1 1 2 ∷ c2il (at 1 2 ∷ []) ∷ [])) (refused_in 5 2 0)
    ∷ row (accepts InUpdate (mrid 1 3 ∷ cocc 2 1 2 ∷ c2il [] ∷ [])) (refused_in 4 3 0)
    ∷ []

-- each of them
pub places_hold : Hold places
unfolding places samples_opened
places_hold = refl

-- ---- where in an update record the fault is when it is applied

-- number, field, tuple
pub applications : List Row
applications =
    row (applies feature (frid 77 2 3 ∷ attr (tuple 22 1 0 3 [] ∷ tuple 23 1 1 1 [] ∷ tuple 21 2 0 3 [] ∷ []) ∷ [])) (refused_in 9 2 3)
    ∷ row (applies feature (frid 77 2 3 ∷ attr (tuple 21 1 0 3 (ascii "B") ∷ tuple 23 1 1 1 [] ∷ []) ∷ [])) (refused_in 6 2 2)
    ∷ row (applies feature (frid 77 2 3 ∷ attr (tuple 21 1 0 3 [] ∷ tuple 23 2 1 1 [] ∷ []) ∷ [])) (refused_in 9 2 2)
    ∷ row (applies feature (frid 77 2 3 ∷ attr (tuple 21 1 0 3 [] ∷ tuple 23 1 1 1 [] ∷ []) ∷ [])) fine
    ∷ row (applies feature (frid 77 2 3 ∷ inas 1 1 [] ∷ inas 1 2 [] ∷ inas 1 2 [] ∷ [])) (refused_in 9 4 0)
    ∷ row (applies feature (frid 77 2 3 ∷ spas (link 115 7 1 1 ∷ []) ∷ spas (link 110 7 1 2 ∷ link 110 7 1 1 ∷ link 115 7 1 1 ∷ []) ∷ [])) (refused_in 7 3 3)
    ∷ row (applies feature (frid 77 1 3 ∷ [])) (refused_in 10 1 0)
    ∷ row (applies feature (frid 76 2 3 ∷ [])) (refused_in 10 1 0)
    ∷ row (applies feature (frid 77 2 3 ∷ foid 4 ∷ [])) (refused_in 10 2 0)
    ∷ row (applies feature (frid 77 2 2 ∷ [])) fine
    ∷ row (applies feature (frid 77 1 1 ∷ foid 3 ∷ [])) (refused_in 7 1 0)
    ∷ row (applies feature (mrid 2 3 ∷ [])) (refused_in 9 1 0)
    ∷ row (applies (multi 1 three) (mrid 2 3 ∷ cocc 1 5 1 ∷ c2il (many 1) ∷ [])) (refused_in 9 2 0)
    ∷ []

-- each of them
pub applications_hold : Hold applications
unfolding applications samples_opened
applications_hold = refl

-- ---- the order of 8, 12, 7, 9, 11 in the updater

-- number, file, record
pub turns : List Row
turns =
    row (updates (general 3 (filler DSSI 60000 ∷ [])) [] (general 4 (filler ATCS 60000 ∷ [])) []) (refused_at 12 2 2)
    ∷ row (updates (general 3 (filler DSSI 60000 ∷ [])) [] (general 5 (filler ATCS 60000 ∷ [])) []) (refused_at 8 2 2)
    ∷ row (updates (general 3 (filler DSSI 60000 ∷ [])) [] (general 4 (filler DSSI 60000 ∷ [])) []) fine
    ∷ row (updates (general 3 (filler DSSI 60000 ∷ [])) [] (general 4 (filler ATCS 60000 ∷ [])) ((frid 77 2 3 ∷ []) ∷ [])) (refused_at 12 2 2)
    ∷ row (updates (general 3 []) [] (general 4 []) ((frid 77 2 3 ∷ []) ∷ [])) (refused_at 9 2 3)
    ∷ row (updates (general 3 []) (multi 1 (many 12490) ∷ []) (general 4 []) ((mrid 2 3 ∷ cocc 1 1 3 ∷ c2il (many 3) ∷ []) ∷ multi_sent 0 ∷ [])) (refused_at 12 2 3)
    ∷ row (updates (general 3 []) (multi 1 three ∷ []) (general 4 []) ((mrid 2 3 ∷ cocc 1 1 3 ∷ c2il (many 3) ∷ []) ∷ multi_sent 0 ∷ [])) (refused_at 7 2 4)
    ∷ row (updates (general 3 []) (feature ∷ []) (general 4 []) (multi_sent 1 ∷ [])) (refused_at 11 3 5)
    ∷ []

-- each of them
pub turns_hold : Hold turns
unfolding turns samples_opened
turns_hold = refl

-- ---- listings

-- point 7 and feature 3, no record after the third, and no input
pub listings : List Row
listings =
    row (prints (point ∷ listed ∷ [])) (text (ascii "rec tag rcid rver attr coord\n4 PRID 7 1 0 1\n5 FRID 3 2 3 0\ntotal 2\n"))
    ∷ row (prints []) (text (ascii "rec tag rcid rver attr coord\ntotal 0\n"))
    ∷ row (prints_of []) (text (ascii "refused 1 1 1\n"))
    ∷ []

-- each of them
pub listings_hold : Hold listings
unfolding listings samples_opened
listings_hold = refl
