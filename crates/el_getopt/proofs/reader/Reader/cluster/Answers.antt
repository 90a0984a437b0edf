use Rattle.std.proofs.Common.{◌≡◌, ◌∙◌, sym, ap, refl, [], Some, true, false, get_or, length, arith}
use Rattle.el_options.specs.Reading.{takes}
use Rattle.el_getopt.specs.Optstring.{letters_in}
use Rattle.el_getopt.proofs.Optstrings.{named}
use Rattle.el_getopt.proofs.Steps.{inside-start, inside-flag, inside-value, inside-wanted, inside-end}
use Rattle.el_getopt.proofs.reader.Reader.cluster.Goals as goal

pub loop-from-init : goal.loop-from-init
loop-from-init c = record { inside = inside-start _ _ _ _ c.requires.at c.requires.inside c.requires.letters; used = refl }

pub returns-then-from-text-clause-ok : goal.returns-then-from-text-clause-ok
returns-then-from-text-clause-ok c =
    let same : c.at-text.result.now ≡ get_or c.args.args.now c.args.self.now.used [] = c.at-text.ensures.same in
    let valued : takes (letters_in c.args.optstring.now) (get_or c.at-text.result.now c.loop-from.from 0) ≡ Some true = sym c.takes_value.ensures ∙ c.in_ok-takes.ensures.ok_part ∙ ap Some c.if-takes.true in
    inside-wanted c.args.optstring.now c.args.args.now c.loop-from.self.found.items c.args.self.now.used c.loop-from.from (get_or c.at-text.result.now c.loop-from.from 0)
    c.loop-from.invariant.inside (ap (λ text. get_or text c.loop-from.from 0) (sym same)) (c.if-from-text.true ∙ ap length same) valued

pub returns-then-from-text-clause-named : goal.returns-then-from-text-clause-named
returns-then-from-text-clause-named c =
    let valued : takes (letters_in c.args.optstring.now) (get_or c.at-text.result.now c.loop-from.from 0) ≡ Some true = sym c.takes_value.ensures ∙ c.in_ok-takes.ensures.ok_part ∙ ap Some c.if-takes.true in
    named c.args.optstring.now (get_or c.at-text.result.now c.loop-from.from 0) true c.requires.optstring valued

pub returns-then-takes-clause-ok : goal.returns-then-takes-clause-ok
returns-then-takes-clause-ok c =
    let same : c.at-text.result.now ≡ get_or c.args.args.now c.args.self.now.used [] = c.at-text.ensures.same in
    let valued : takes (letters_in c.args.optstring.now) (get_or c.at-text.result.now c.loop-from.from 0) ≡ Some true = sym c.takes_value.ensures ∙ c.in_ok-takes.ensures.ok_part ∙ ap Some c.if-takes.true in
    let long = ap length same in
    rw c.in_ok-note.ensures.found
    (inside-value c.args.optstring.now c.args.args.now c.loop-from.self.found.items c.args.self.now.used c.loop-from.from (get_or c.at-text.result.now c.loop-from.from 0)
    c.loop-from.invariant.inside (ap (λ text. get_or text c.loop-from.from 0) (sym same)) (omega arith) valued
    (named c.args.optstring.now (get_or c.at-text.result.now c.loop-from.from 0) true c.requires.optstring valued))

pub loop-from-preserved : goal.loop-from-preserved
loop-from-preserved c =
    let same : c.at-text.result.now ≡ get_or c.args.args.now c.args.self.now.used [] = c.at-text.ensures.same in
    let plain : takes (letters_in c.args.optstring.now) (get_or c.at-text.result.now c.loop-from.from 0) ≡ Some false = sym c.takes_value.ensures ∙ c.in_ok-takes.ensures.ok_part ∙ ap Some c.if-takes.false in
    let long = ap length same in
    record {
      inside = rw c.in_ok-note-2.ensures.found
          (inside-flag c.args.optstring.now c.args.args.now c.loop-from.self.found.items c.args.self.now.used c.loop-from.from (get_or c.at-text.result.now c.loop-from.from 0)
          c.loop-from.invariant.inside (ap (λ text. get_or text c.loop-from.from 0) (sym same)) (omega arith) plain
          (named c.args.optstring.now (get_or c.at-text.result.now c.loop-from.from 0) false c.requires.optstring plain));
      used = c.in_ok-note-2.ensures.used ∙ c.loop-from.invariant.used;
    }

pub returns-clause-ok : goal.returns-clause-ok
returns-clause-ok c =
    let same : c.at-text.result.now ≡ get_or c.args.args.now c.args.self.now.used [] = c.at-text.ensures.same in
    let long = ap length same in
    inside-end c.args.optstring.now c.args.args.now c.loop-from.self.found.items c.args.self.now.used c.loop-from.from c.loop-from.invariant.inside (omega arith)
