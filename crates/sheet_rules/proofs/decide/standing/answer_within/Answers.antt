-- `sheet_rules::decide::standing::answer_within` meets its contract. Assumes nothing.
use mathlib.Core.Path.{◌≡◌, sym, ◌∙◌}
use mir.Syntax.{w64}
use mir.Val.{to_z, of_z}
use Rattle.sheet_rules.specs.OneLine.{sheet_at}
use Rattle.sheet_rules.proofs.OneLine.{held, accepted-few, chain_by, within-answered}
use borrow.Author.Rules.{rules}
use Rattle.sheet_rules.proofs.decide.standing.answer_within.Goals as goal

pub chain_after-chain-requires : goal.chain_after-chain-requires
chain_after-chain-requires c =
    let s = c in
    let y : to_z w64 (of_z w64 s.args.standing.chain.profile) ≡ s.args.standing.chain.profile = search rules in
    let g = c.decide-decided.ensures (sheet_at s.args.standing) (rw y (held s.args.standing _ s.requires.2 s.requires.3)) in
    (s.requires.1, λ t b e f. accepted-few (sheet_at s.args.standing) s.args.text.now t b (sym g.reply ∙ e) f)

pub returns : goal.returns
returns c =
    let s = c in
    let y : to_z w64 (of_z w64 s.args.standing.chain.profile) ≡ s.args.standing.chain.profile = search rules in
    let g = c.decide-decided.ensures (sheet_at s.args.standing) (rw y (held s.args.standing _ s.requires.2 s.requires.3)) in
    let e : to_z w64 (of_z w64 c.decide-decided.result.state.profile) ≡ c.decide-decided.result.state.profile = search rules in
    within-answered s.args.standing s.args.text.now s.requires.0 _ _ _ _ _ g.holds.line
    (rw e (chain_by s.args.standing s.args.text.now _ _ _ g.reply g.holds.profile c.chain_after-chain.ensures)) g.holds.refused g.holds.closed g.reply
