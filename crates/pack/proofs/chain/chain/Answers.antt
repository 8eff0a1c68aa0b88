-- The places that are remembered have room, since no refusal meets the pack, and links over them lead to all groups of each outer instruction.
-- Assumes nothing.
use Rattle.pack.specs.Items.{outers_at}
use Rattle.pack.specs.Sections.{section_of}
use Rattle.pack.specs.Loops.{kept_at}
use Rattle.pack.proofs.Good.{passed}
use Rattle.pack.proofs.Filled.{groups-room, kept-room, chained}
use native.Mathlib.Omega.{arith}
use mathlib.Core.Path.{◌≡◌, refl, ap, ◌∙◌}
use Rattle.pack.specs.View.{outer_in}
use Rattle.pack.specs.Invocation.{instruction_at}
use lib.ListN.{length, length-map}
use lib.Seq.{length-sets}
use Rattle.pack.proofs.chain.chain.Goals as goal
use Rattle.pack.proofs.chain.chain.Goals.{After-unwrap_or-o, After-kept_places-n}

-- how many outer instructions there are
count : (c : After-unwrap_or-o) → c.unwrap_or-o.result ≡ length (outers_at (section_of c.args.pack.now 2))
unfolding outer_in
count c =
    let p = c.args.pack.now in
    let n = length-map (outers_at (section_of p 2)) (instruction_at (section_of p 2)) in
    rw (c.unwrap_or-o.ensures, c.outers.ensures, c.section.ensures, (passed p c.requires.0).outers, n)

-- the array that the places are written into
long : (c : After-kept_places-n) → length c.args.chains.now.place ≡ 1024
long c =
    let w = c.kept_places-n in
    let e = ap length w.ensures.1 ∙ length-sets c.args.chains.now.place 0 (kept_at c.section-s.result.now c.unwrap_or-o.result) in
    omega (arith, w.array_long)

pub kept_places-n-requires : goal.kept_places-n-requires
kept_places-n-requires c =
    let p = c.args.pack.now in
    groups-room p (section_of p 2) c.section-s.result.now c.unwrap_or-o.result c.requires.0 refl c.section-s.ensures (count (goal.at.kept_places-n-requires c).After-unwrap_or-o)

pub link-requires : goal.link-requires
link-requires c =
    let g = c.section-s in
    let p = c.args.pack.now in
    let z = c.args.chains.now.place in
    let o = c.unwrap_or-o.result in
    let w = c.kept_places-n.ensures in
    let e = count (goal.at.link-requires c).After-unwrap_or-o in
    let room = groups-room p (section_of p 2) g.result.now o c.requires.0 refl g.ensures e in
    record {
      n_bound = (omega (arith, w.0, room.1), c.requires.1);
      by_index = kept-room p (section_of p 2) g.result.now o c.requires.0 refl g.ensures e z _ c.kept_places-n.result (long (goal.at.link-requires c).After-kept_places-n) w.0 w.1;
    }

pub returns : goal.returns
returns c =
    let g = c.section-s in
    let p = c.args.pack.now in
    let w = c.kept_places-n.ensures in
    let l = c.link.ensures in
    rw (← g.ensures)
    (chained p (section_of p 2) g.result.now c.unwrap_or-o.result c.requires.0 refl g.ensures (count (goal.at.returns c).After-unwrap_or-o) c.args.chains.now.place _ c.kept_places-n.result (long (goal.at.returns c).After-kept_places-n) w.0 w.1 _ l.0 l.1)
