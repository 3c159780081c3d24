-- `lay_links`: what is left to lay from point k on gives what was to be laid at first.
use Prim.Native.Nat.{◌+◌, ◌-◌}
use native.Mathlib.Omega.{arith}
use mathlib.Core.Path.{ap, ◌∙◌}
use Rattle.link.specs.Lists.{every, up_from}
use Rattle.link.specs.Table.{table}
use Rattle.path.specs.Records.{point_at}
use Rattle.speed.specs.Becomes.{points_of}
use Rattle.link.proofs.Loops.{whole-range, range_none, range-next}
use Rattle.path.specs.Sound.{total}
use Rattle.path_speeds.specs.Limits.{sets_of, point_few, point_count, lay_links}
use Rattle.path_speeds.proofs.LayingLoop.{going-first}
use Rattle.path_speeds.proofs.LinkLimits.{links-room, links-next, links-done}
use Rattle.link.proofs.Known.{every-next}
use Rattle.path_speeds.proofs.add_speeds.lay_links.Goals as goal

pub loop-k-init : goal.loop-k-init
loop-k-init c =
    let a = c.args in
    let q = sets_of (table a.network.now) in
    let at = point_at a.offsets.now a.numbers.now in
    let all = whole-range at a.first a.count in
    let ls = up_from at a.first a.count in (
      ap (every (point_few a.train q)) all ∙ c.requires.count_value,
      rw (all) (going-first a.speeds.now (total (point_count a.train q) ls) (λ ps. lay_links a.train a.length.0 q ps ls) c.requires.some c.requires.room),
    )

pub add_speeds-requires : goal.add_speeds-requires
add_speeds-requires c =
    let a = c.args in
    let q = sets_of (table a.network.now) in
    let at = point_at a.offsets.now a.numbers.now in
    let end = a.first + a.count in
    let o = c.loop-k in
    let g = o.invariant.1 in record { some = g.some; i_bound = omega arith; i_value = ap (point_few a.train q) c.link_point_at-p.ensures ∙ (every-next at (point_few a.train q) o.k end c.loop-k-test.true o.invariant.0).0; room = links-room a.train a.length.0 q a.speeds.now (lay_links a.train a.length.0 q (points_of a.speeds.now) (up_from at a.first a.count)) (up_from at o.k (end - o.k)) o.speeds g c.link_point_at-p.result (up_from at (o.k + 1) (end - (o.k + 1))) (range-next at o.k end c.loop-k-test.true c.link_point_at-p.result c.link_point_at-p.ensures) }

pub loop-k-preserved : goal.loop-k-preserved
loop-k-preserved c =
    let a = c.args in
    let q = sets_of (table a.network.now) in
    let at = point_at a.offsets.now a.numbers.now in
    let end = a.first + a.count in
    let o = c.loop-k in
    let r = c.add_speeds in (
      (every-next at (point_few a.train q) o.k end c.loop-k-test.true o.invariant.0).1,
      links-next a.train a.length.0 q a.speeds.now (lay_links a.train a.length.0 q (points_of a.speeds.now) (up_from at a.first a.count)) (up_from at o.k (end - o.k)) o.speeds o.invariant.1 c.link_point_at-p.result (up_from at (o.k + 1) (end - (o.k + 1))) (range-next at o.k end c.loop-k-test.true c.link_point_at-p.result c.link_point_at-p.ensures) r.new.speeds r.ensures,
    )

pub returns : goal.returns
returns c =
    let a = c.args in
    let q = sets_of (table a.network.now) in
    let at = point_at a.offsets.now a.numbers.now in
    let end = a.first + a.count in
    let o = c.loop-k in
    links-done a.train a.length.0 q a.speeds.now (lay_links a.train a.length.0 q (points_of a.speeds.now) (up_from at a.first a.count)) (up_from at o.k (end - o.k)) o.speeds o.invariant.1 (range_none at o.k end c.loop-k-test.false)
