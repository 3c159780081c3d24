-- Questions 4 to 7 (R107 to R110), put to one link and to a list of links. Definitions only.
use Rattle.std.specs.Prelude.{ℕ, ◌+◌, ◌*◌, Bool, true, false, cond, not, ◌&&◌, ◌||◌, List, [], ◌∷◌, map, length, ◌==◌, nat_le, slice_index, Float, Option, Some, None}
use Rattle.std.specs.Float.Ieee as Ieee
use Rattle.std.specs.Float.Ieee.Scale.{finite}
use Rattle.ieee.specs.Number.{+0}
use Rattle.link.specs.declared.train_params.TrainType.{TrainType}
use Rattle.link.specs.declared.speed_set.SpeedSet.{SpeedSet}
use Rattle.link.specs.declared.network.LinkNumbers.{LinkNumbers}
use Rattle.link.specs.declared.questions.Numbers.{Numbers}
use Rattle.link.specs.declared.questions.Numbers.TheVariants.{Listed, OfPoints}
use Rattle.link.specs.Lists.{every, up_from, first_no}
use Rattle.link.specs.Condition.{condition_formed}
use Rattle.link.specs.Table.{LinkTable, Sample, Limit, PowerLimit, in_table, numbers_of, link_at, set_at, inside, is_present, conditions_of, limits_of, set_for, set_told}

-- ---- question 4 (R107): the number is not 0 and in the table

unfoldable pub real_in : List ℕ → List Float → List ℕ → ℕ → Bool
real_in links lengths sets n = not (n == 0) && in_table links lengths sets n

-- ---- question 5 (R108): each link follows the one before

-- an alternative is another link than the one it stands beside, or 0 for none
abbrev pub apart : ℕ → ℕ → Bool
apart idx alt = not (idx == alt) || alt == 0

unfoldable pub follows : ℕ → LinkNumbers → Bool
follows prev link =
    not (prev == 0)
    && (apart link.idx_prev link.idx_prev_alt
    && (apart link.idx_next link.idx_next_alt && (link.idx_prev == prev || link.idx_prev_alt == prev)))

-- ---- question 6 (R109): the link is well formed

-- R109: offsets rise strictly to the length; o is the offset before these
unfoldable pub rise_to : Float → Float → List Sample → Bool
rise_to length o [] = Ieee.eq o length
rise_to length o (s ∷ ss) = Ieee.lt o s.offset && rise_to length s.offset ss

-- R109: none or at least two, offsets from 0 to the length
unfoldable pub spans : Float → List Sample → Bool
unfolding rise_to
spans length [] = true
spans length (s ∷ []) = false
spans length (s ∷ r ∷ ss) = Ieee.eq s.offset +0 && rise_to length s.offset (r ∷ ss)

unfoldable pub sample_finite : Sample → Bool
sample_finite s = finite s.offset && finite s.value

unfoldable pub samples_formed : Float → List Sample → Bool
unfolding every spans sample_finite
samples_formed length ss = every sample_finite ss && spans length ss

-- R109: 0 ≤ start ≤ end, every number finite
unfoldable pub limit_formed : Limit → Bool
limit_formed l = finite l.start && (finite l.end && (finite l.value && (Ieee.le +0 l.start && Ieee.le l.start l.end)))

abbrev pub power_formed : PowerLimit → Bool
power_formed p = limit_formed p.limit

-- a flag's code is 0 or 1
abbrev pub known_flag : ℕ → Bool
known_flag f = nat_le f 1

-- R109, a set that is present: known codes, at most 64 conditions, its ranges inside their pools
unfoldable pub present_formed : List ℕ → List Float → List Float → SpeedSet → Bool
unfolding every condition_formed limit_formed
present_formed codes values limits s =
    known_flag s.is_head_end
    && (nat_le s.params_count 64
    && (inside 2 s.params_first s.params_count codes
    && (inside 1 s.params_first s.params_count values
    && (inside 3 s.limits_first s.limits_count limits
    && (every condition_formed (conditions_of codes values s) && every limit_formed (limits_of limits s))))))

-- a place without a set is asked nothing more
unfoldable pub set_formed : List ℕ → List Float → List Float → SpeedSet → Bool
unfolding present_formed
set_formed codes values limits s = known_flag s.present && (not (is_present s) || present_formed codes values limits s)

-- the ranges of elevations, headings and power limits lie inside their pools
unfoldable pub in_pools : List Float → List Float → List Float → List ℕ → LinkNumbers → Bool
in_pools elevs headings powers districts n =
    inside 2 n.elevs_first n.elevs_count elevs
    && (inside 2 n.headings_first n.headings_count headings
    && (inside 3 n.powers_first n.powers_count powers && inside 1 n.powers_first n.powers_count districts))

-- R109: `idx_curr` is its place in the table, the length is above 0, and the rest
unfoldable pub well_formed : LinkTable → ℕ → Bool
unfolding in_pools samples_formed set_formed every limit_formed link_at
well_formed t n =
    let link = link_at t n in
    (link.numbers.idx_curr == n)
    && (in_pools t.elevs t.headings t.powers t.districts link.numbers
    && (finite link.length
    && (Ieee.lt +0 link.length
    && (samples_formed link.length link.elevs
    && (samples_formed link.length link.headings
    && (every power_formed link.powers && every (set_formed t.codes t.values t.limits) (up_from link.set 0 8)))))))

-- ---- question 7 (R110): there is a set for the train

unfoldable pub has_set : List ℕ → TrainType → ℕ → Bool
unfolding set_for set_at
has_set sets type n = (set_told (set_for (set_at sets n) type)).number == 0

-- ---- over a list of link numbers: the first failing position

-- the number at position k: of a plain list, or of link points, four numbers to a point
abbrev pub number_at : Bool → List ℕ → ℕ → ℕ
number_at points list k = cond points (slice_index list (4 * k + 3)) (slice_index list k)

abbrev pub numbers : Bool → List ℕ → ℕ → List ℕ
numbers points list count = up_from (number_at points list) 0 count

-- the numbers as the code passes them
abbrev pub number_in : Numbers → ℕ → ℕ
number_in (Listed list count) k = number_at false list.now k
number_in (OfPoints list count) k = number_at true list.now k

abbrev pub numbers_in : Numbers → List ℕ
numbers_in (Listed list count) = numbers false list.now count
numbers_in (OfPoints list count) = numbers true list.now count

unfoldable pub question4 : List ℕ → List Float → List ℕ → List ℕ → Option ℕ
unfolding real_in
question4 links lengths sets ns = first_no (map (real_in links lengths sets) ns)

-- the link follows the one before it, where there is one
abbrev pub follows_last : Option ℕ → LinkNumbers → Bool
follows_last None link = true
follows_last (Some prev) link = follows prev link

-- R48: the first of the list is asked where the path has a link, `last`
unfoldable pub contiguous : List ℕ → Option ℕ → List ℕ → List Bool
unfolding follows
contiguous links last [] = []
contiguous links last (n ∷ ns) = follows_last last (numbers_of links n) ∷ contiguous links (Some (numbers_of links n).idx_curr) ns

unfoldable pub question5 : List ℕ → Option ℕ → List ℕ → Option ℕ
unfolding contiguous
question5 links last ns = first_no (contiguous links last ns)

unfoldable pub question6 : LinkTable → List ℕ → Option ℕ
unfolding well_formed
question6 t ns = first_no (map (well_formed t) ns)

unfoldable pub question7 : List ℕ → TrainType → List ℕ → Option ℕ
unfolding has_set
question7 sets type ns = first_no (map (has_set sets type) ns)
