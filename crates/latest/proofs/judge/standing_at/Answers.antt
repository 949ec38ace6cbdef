-- `latest::judge::standing_at` meets its contract. Assumes nothing.
use native.Mathlib.Omega.{arith}
use mathlib.Core.Path.{◌≡◌, sym, ◌∙◌}
use Prim.Native.Nat.{◌+◌}
use lib.ListN.{length}
use borrow.Author.Tests.{eq-eqb, ne_eqb}
use Rattle.latest.proofs.judge.standing_at.Goals as goal

pub returns-then-e-o : goal.returns-then-e-o
returns-then-e-o c =
    let a = c.args in
    rw (eq-eqb (a.k + 1) (length a.o.now) c.if-e-o.true) c.fresh_standing.ensures

pub same_top-requires : goal.same_top-requires
same_top-requires c =
    let a = c.args in
    let q = c.requires in
    (q.1 a.k q.0, q.1 (a.k + 1) (let ne : a.k + 1 ≡ length a.o.now → ⊥ = c.if-e-o.false in omega arith))

pub returns-then-same_top : goal.returns-then-same_top
returns-then-same_top c =
    let a = c.args in
    rw (ne_eqb (a.k + 1) (length a.o.now) c.if-e-o.false, sym c.same_top.ensures ∙ c.if-same_top.true)

pub same_key-requires : goal.same_key-requires
same_key-requires c =
    let a = c.args in
    let q = c.requires in
    (q.1 a.k q.0, q.1 (a.k + 1) (let ne : a.k + 1 ≡ length a.o.now → ⊥ = c.if-e-o.false in omega arith))

pub returns-then-same_key : goal.returns-then-same_key
returns-then-same_key c =
    let a = c.args in
    rw (ne_eqb (a.k + 1) (length a.o.now) c.if-e-o.false, sym c.same_top.ensures ∙ c.if-same_top.false, sym c.same_key.ensures ∙ c.if-same_key.true)

pub returns : goal.returns
returns c =
    let a = c.args in
    rw (ne_eqb (a.k + 1) (length a.o.now) c.if-e-o.false, sym c.same_top.ensures ∙ c.if-same_top.false, sym c.same_key.ensures ∙ c.if-same_key.false)
    c.fresh_standing-2.ensures
