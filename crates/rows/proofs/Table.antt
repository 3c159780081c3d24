-- Rows S1 to S8, T1, T2 and L1 to L4 (R135) hold of the definitions: one test, computed over the whole table. Its `unfolding` line names what
-- it computes through in each crate below.
use lib.Dec.{T}
use lib.Ieee as Ieee
use Rattle.ieee.specs.Number.{all_finite}
use Rattle.ieee.specs.Speed.{smaller, min_speed}
use Rattle.column.specs.Entries.{filled}
use Rattle.column.specs.Records as column
use Rattle.speed.specs.Insert.{insert_speed}
use Rattle.speed.specs.Clear.{clear_points}
use Rattle.lookup.specs.Coeff.{coeffs_finite}
use Rattle.lookup.specs.Search.{searched, in_range, hint_allowed}
use Rattle.lookup.specs.CalcIdx.{calc_idx}
use Rattle.link.specs.Lists as lists
use Rattle.path.specs.Records.{path_of}
use Rattle.path.specs.Answers.{in_turn, outcome}
use Rattle.path.specs.Sound.{totals, path_answer}
use Rattle.path_clear.specs.Clear.{clear_of}
use Rattle.rows.specs.Rows.{rows}
use Rattle.rows.specs.Right.{every}

pub table : T (every rows)
unfolding rows every clear_of path_of path_answer in_turn outcome totals lists.every calc_idx searched in_range hint_allowed coeffs_finite insert_speed clear_points filled column.flat column.records column.record_at all_finite min_speed smaller Ieee.to_bits Ieee.of_int Ieee.lt Ieee.le Ieee.eq Ieee.ne Ieee.neg
table = tt
