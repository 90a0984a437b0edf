use Rattle.std.proofs.Common.{◌∙◌, ℕ, sym, ap, subst, length, arith}
use Rattle.std.proofs.lemmas.List.{nil_from_length}
use Rattle.el_reader.specs.Inspections.{first_scope}
use Rattle.el_reader.specs.Readers.{fault_line}
use Rattle.el_reader.proofs.ReaderReads.{IsReading, starts, may-come, reads-some, fault-read, goes-on, all-closed, end-read}
use Rattle.el_reader.proofs.reader.read_tree.Goals as goal

pub loop-token-init : goal.loop-token-init
loop-token-init c =
    let gives = c.into_iter-token-iterator.ensures.into_iter_gives in (
      subst (IsReading (first_scope c.args.places) c.args.tokens c.in_ok-reader.reader 0) (sym gives.0)
          (starts (first_scope c.args.places) c.args.tokens c.in_ok-reader.reader c.requires c.in_ok-reader.ensures.read c.in_ok-reader.ensures.depth),
      gives.1 ∙ ap length (sym gives.0),
    )

pub take-requires-clause-some : goal.take-requires-clause-some
take-requires-clause-some c = reads-some c.loop-token.invariant.0

pub take-requires-clause-may : goal.take-requires-clause-may
take-requires-clause-may c = may-come c.loop-token.invariant.0 c.in-Some.ensures.steps.0

pub returns-in-Some-2 : goal.returns-in-Some-2
returns-in-Some-2 c =
    fault-read c.loop-token.invariant.0 c.in-Some.ensures.steps.0 c.new-in-Some-2.result c.take.new.self c.in_ok-found.ensures c.in-Some-2.is c.new-in-Some-2.ensures.fault
    (c.new-in-Some-2.ensures.line ∙ ap (λ (line : ℕ). fault_line c.in-Some-2.found line c.loop-token.last_line) c.token_line-line.ensures)

pub loop-token-preserved : goal.loop-token-preserved
loop-token-preserved c =
    let gone = c.in-Some.ensures.steps.1 in
    let short = ap length c.in-Some.ensures.steps.0 in
    let before = c.loop-token.invariant.1 in
    (goes-on c.loop-token.invariant.0 c.in-Some.ensures.steps.0 c.take.new.self c.in_ok-found.ensures c.in_default.is c.token_line-line.ensures, omega (arith, gone, short, before))

pub end-requires-clause-some : goal.end-requires-clause-some
end-requires-clause-some c = reads-some c.loop-token.invariant.0

pub end-requires-clause-closed : goal.end-requires-clause-closed
end-requires-clause-closed c = all-closed c.loop-token.invariant.0 (nil_from_length _ (sym c.loop-token.invariant.1 ∙ c.in-None.ensures.steps.0))

pub returns : goal.returns
returns c =
    let none = nil_from_length _ (sym c.loop-token.invariant.1 ∙ c.in-None.ensures.steps.0) in
    end-read c.loop-token.invariant.0 none c.end.result (c.end.ensures (first_scope c.args.places))
