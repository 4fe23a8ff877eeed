use Rattle.std.proofs.Common.{◌∙◌, ap}
use Rattle.search.specs.Standing.{rows_of, terms_of}
use Rattle.search.specs.Unmuted.{all_unmuted}
use Rattle.search.specs.Verdicts.{clash}
use Rattle.search.proofs.Alike.{same_rows}
use Rattle.search.proofs.Deciding.{core_given, first_given, given_unmuted, left_given, none_given}
use Rattle.search.proofs.decide.decide.Goals as goal

pub find_clash-requires-clause-unmuted : goal.find_clash-requires-clause-unmuted
find_clash-requires-clause-unmuted g c =
    let f = g.F.Engine in
    let s = g.S.Engine in
    let x = c.note_standing.new.engine in
    let y = c.note_standing-2.new.engine in
    let w = c.args.standing.now in
    ap all_unmuted (same_rows c.in-None.ensures.alike) ∙ given_unmuted f s x y (terms_of w) (rows_of w) c.note_standing.ensures.leaves

pub returns-in-Some-clause-judges : goal.returns-in-Some-clause-judges
returns-in-Some-clause-judges g c =
    let f = g.F.Engine in
    let s = g.S.Engine in
    let a = c.note_standing in
    let b = c.note_standing-2 in
    let w = c.args.standing.now in
    first_given f s a.new.engine b.new.engine (terms_of w) (rows_of w) a.ensures.leaves (f.setting c.args.first.now) (s.setting c.args.second.now) a.ensures.keeps b.ensures.keeps c.in-Some.codes.items c.in-Some.ensures.finds

pub returns-in-None-clause-judges : goal.returns-in-None-clause-judges
returns-in-None-clause-judges g c =
    let f = g.F.Engine in
    let s = g.S.Engine in
    let a = c.note_standing in
    let b = c.note_standing-2 in
    let w = c.args.standing.now in
    let n = f.setting c.args.first.now in
    let m = s.setting c.args.second.now in (
      none_given f s a.new.engine b.new.engine (terms_of w) (rows_of w) a.ensures.leaves n m a.ensures.keeps b.ensures.keeps c.in-None.ensures.finds,
      core_given f s a.new.engine b.new.engine (terms_of w) (rows_of w) a.ensures.leaves n m a.ensures.keeps b.ensures.keeps c.find_first.new.first c.find_first.new.second c.in-None.ensures.alike c.find_clash.result.items c.find_clash.ensures.core,
    )

pub returns-in-None-clause-leaves_first : goal.returns-in-None-clause-leaves_first
returns-in-None-clause-leaves_first g c =
    let w = c.args.standing.now in
    left_given g.F.Engine g.S.Engine c.note_standing.new.engine c.note_standing-2.new.engine (terms_of w) (rows_of w) c.note_standing.ensures.leaves c.in-None.ensures.alike
    (clash c.find_clash.result.items) _ c.find_clash.ensures.leaves_first

pub returns-in-None-clause-leaves_second : goal.returns-in-None-clause-leaves_second
returns-in-None-clause-leaves_second g c =
    let w = c.args.standing.now in
    left_given g.F.Engine g.S.Engine c.note_standing.new.engine c.note_standing-2.new.engine (terms_of w) (rows_of w) c.note_standing.ensures.leaves c.in-None.ensures.alike
    (clash c.find_clash.result.items) _ c.find_clash.ensures.leaves_second
