-- The link table: its columns, and the link that they hold at a number. What lies past a column's end counts as 0. Definitions only.
use Rattle.std.specs.Prelude.{ℕ, suc, ◌+◌, ◌*◌, Bool, cond, ◌&&◌, List, length, ◌==◌, nat_le, nat_lt, slice_index, slice_index_or, Float, Option, Some, None}
use Rattle.ieee.specs.Number.{+0}
use Rattle.column.specs.Records.{record_at, two, three}
use Rattle.speed.specs.declared.speed_limit.SpeedLimit.{SpeedLimit}
use Rattle.link.specs.declared.elev.Elev.{Elev}
use Rattle.link.specs.declared.elev.Heading.{Heading}
use Rattle.link.specs.declared.cat_power.CatPowerLimit.{CatPowerLimit}
use Rattle.link.specs.declared.train_params.TrainType.{TrainType}
use Rattle.link.specs.declared.speed_set.SpeedSet.{SpeedSet}
use Rattle.link.specs.declared.network.LinkNumbers.{LinkNumbers}
use Rattle.link.specs.declared.network.Network.{Network}
use Rattle.link.specs.Lists.{up_from}
use Rattle.link.specs.Train.{type_number}
use Rattle.link.specs.Condition.{Condition}

-- ---- the columns

-- Each link has eleven numbers in `links` (its own, the next, the other next, the one before, the other one before; first and count of its
-- elevations, of its headings and of its power limits), one in `lengths`, and eight set places of six numbers in `sets` (the single set's, then
-- one for each train type: present, head end, first and count of its conditions and of its limits). The other columns are pools, which the
-- firsts and counts point into.
pub record LinkTable : Type 0 where
  pub links : List ℕ
  pub lengths : List Float
  pub sets : List ℕ
  -- (offset, elevation)
  pub elevs : List Float
  -- (offset, heading)
  pub headings : List Float
  -- (start, end, speed)
  pub limits : List Float
  -- (kind, comparison)
  pub codes : List ℕ
  pub values : List Float
  -- (start, end, power)
  pub powers : List Float
  pub districts : List ℕ

abbrev pub table_of : List ℕ → List Float → List ℕ → List Float → List Float → List Float → List ℕ → List Float → List Float → List ℕ → LinkTable
table_of links lengths sets elevs headings limits codes values powers districts =
    record {
      links = links;
      lengths = lengths;
      sets = sets;
      elevs = elevs;
      headings = headings;
      limits = limits;
      codes = codes;
      values = values;
      powers = powers;
      districts = districts;
    }

-- the table that the columns hold, as the code lends them
abbrev pub table : Network → LinkTable
table n =
    table_of n.links.now n.lengths.now n.sets.now n.elevs.now n.headings.now n.limits.now n.codes.now n.values.now n.powers.now n.districts.now

-- ---- records of the pools

-- an elevation or a heading at an offset of the link
pub record Sample : Type 0 where
  pub offset : Float
  pub value : Float

-- a speed or a power, from start to end
pub record Limit : Type 0 where
  pub start : Float
  pub end : Float
  pub value : Float

pub record PowerLimit : Type 0 where
  pub limit : Limit
  pub district : ℕ

abbrev pub sample_at : List Float → ℕ → Sample
sample_at c i = record { offset = (record_at two c i).0; value = (record_at two c i).1 }

abbrev pub limit_at : List Float → ℕ → Limit
limit_at c i = record { start = (record_at three c i).0; end = (record_at three c i).1; value = (record_at three c i).2 }

abbrev pub power_at : List Float → List ℕ → ℕ → PowerLimit
power_at c d i = record { limit = limit_at c i; district = slice_index d i }

-- the records as the code passes them
abbrev pub elev_of : Elev → Sample
elev_of e = record { offset = e.offset.0; value = e.elev.0 }

abbrev pub heading_of : Heading → Sample
heading_of h = record { offset = h.offset.0; value = h.heading.0 }

abbrev pub limit_of : SpeedLimit → Limit
limit_of l = record { start = l.offset_start.0; end = l.offset_end.0; value = l.speed.0 }

abbrev pub power_of : CatPowerLimit → PowerLimit
power_of p = record { limit = record { start = p.offset_start.0; end = p.offset_end.0; value = p.power_limit.0 }; district = p.district_id }

abbrev pub condition_at : List ℕ → List Float → ℕ → Condition
condition_at codes values i = record { kind = slice_index codes (2 * i); comparison = slice_index codes (2 * i + 1); value = slice_index_or values i +0 }

-- the records from `first` on, `count` of them, at `width` entries each, lie inside the column
abbrev pub inside : {A : Type 0} → ℕ → ℕ → ℕ → List A → Bool
inside width first count c = nat_le (width * (first + count)) (length c)

-- ---- the set places of a link

-- entry k of place p of link i
abbrev pub set_number : List ℕ → ℕ → ℕ → ℕ → ℕ
set_number sets i p k = slice_index sets (48 * i + 6 * p + k)

-- the six numbers of place p
unfoldable pub set_at : List ℕ → ℕ → ℕ → SpeedSet
set_at sets i p =
    record {
      present = set_number sets i p 0;
      is_head_end = set_number sets i p 1;
      params_first = set_number sets i p 2;
      params_count = set_number sets i p 3;
      limits_first = set_number sets i p 4;
      limits_count = set_number sets i p 5;
    }

abbrev pub is_present : SpeedSet → Bool
is_present s = s.present == 1

abbrev pub conditions_of : List ℕ → List Float → SpeedSet → List Condition
conditions_of codes values s = up_from (condition_at codes values) s.params_first s.params_count

abbrev pub limits_of : List Float → SpeedSet → List Limit
limits_of limits s = up_from (limit_at limits) s.limits_first s.limits_count

-- R30: of the set places of a link place 0, or place 1 + type
unfoldable pub set_for : (ℕ → SpeedSet) → TrainType → Option SpeedSet
set_for set type =
    cond (is_present (set 0)) (Some (set 0)) (cond (is_present (set (suc (type_number type)))) (Some (set (suc (type_number type)))) None)

-- a set looked up, as R102 wants it told: the number of the question that refuses a missing one, and the set, of zeros for a refusal
pub record SetTold : Type 0 where
  pub number : ℕ
  pub set : SpeedSet

abbrev pub no_set : SpeedSet
no_set = record { present = 0; is_head_end = 0; params_first = 0; params_count = 0; limits_first = 0; limits_count = 0 }

-- R102: number and set of each case of the enum; question 7 (R110) refuses a missing one
abbrev pub set_told : Option SpeedSet → SetTold
set_told (Some s) = record { number = 0; set = s }
set_told None = record { number = 7; set = no_set }

-- ---- a link

-- entry k of link i
abbrev pub link_number : List ℕ → ℕ → ℕ → ℕ
link_number links i k = slice_index links (11 * i + k)

-- the eleven numbers of link i
unfoldable pub numbers_of : List ℕ → ℕ → LinkNumbers
numbers_of links i =
    record {
      idx_curr = link_number links i 0;
      idx_next = link_number links i 1;
      idx_next_alt = link_number links i 2;
      idx_prev = link_number links i 3;
      idx_prev_alt = link_number links i 4;
      elevs_first = link_number links i 5;
      elevs_count = link_number links i 6;
      headings_first = link_number links i 7;
      headings_count = link_number links i 8;
      powers_first = link_number links i 9;
      powers_count = link_number links i 10;
    }

pub record Link : Type 0 where
  pub numbers : LinkNumbers
  pub length : Float
  pub elevs : List Sample
  pub headings : List Sample
  pub powers : List PowerLimit
  -- place 0: the single set; place 1 + type: the one for a train type
  pub set : ℕ → SpeedSet

unfoldable pub link_at : LinkTable → ℕ → Link
link_at t i =
    let n = numbers_of t.links i in
    record {
      numbers = n;
      length = slice_index_or t.lengths i +0;
      elevs = up_from (sample_at t.elevs) n.elevs_first n.elevs_count;
      headings = up_from (sample_at t.headings) n.headings_first n.headings_count;
      powers = up_from (power_at t.powers t.districts) n.powers_first n.powers_count;
      set = set_at t.sets i;
    }

-- a link is in the table if its numbers, its length and its set places lie in their columns
unfoldable pub in_table : List ℕ → List Float → List ℕ → ℕ → Bool
in_table links lengths sets i = nat_le (11 * suc i) (length links) && (nat_lt i (length lengths) && nat_le (48 * suc i) (length sets))
