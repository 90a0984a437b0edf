use Rattle.std.proofs.Common.{◌≡◌, ◌∙◌, sym, ap, refl, [], None, get_or, arith, length}
use Rattle.std.proofs.lemmas.Result.{err_from_is_err_and}
use Rattle.el_options.specs.declared.read.UsageFault.TheVariants.{Unknown as UnknownLetter}
use Rattle.el_options.specs.Slots.{faulty}
use Rattle.el_options.proofs.Slots.{placed, unknown}
use Rattle.el_options.proofs.Steps.{inside-start, inside-flag, inside-value, inside-wanted, inside-end, inside-unknown}
use Rattle.el_options.proofs.reader.Reader.cluster.Goals as goal

pub loop-from-init : goal.loop-from-init
loop-from-init g c = record { inside = inside-start _ _ _ _ _ c.requires.at c.requires.inside c.requires.letters; used = refl }

pub returns-in_err-place-clause-fault : goal.returns-in_err-place-clause-fault
returns-in_err-place-clause-fault g c =
    let same : c.at-text.result.now ≡ get_or c.args.words.now c.args.self.now.used [] = c.at-text.ensures.same in
    let long = ap length same in
    let p = err_from_is_err_and c.from_residual.result c.from_residual.ensures.1 in
    let q = inside-unknown c.args.table.now.opts c.args.words.now c.args.self.now.used c.loop-from.from c.loop-from.self.slots c.loop-from.self.count (get_or c.at-text.result.now c.loop-from.from 0)
    c.loop-from.invariant.inside (omega arith) (ap (λ text. get_or text c.loop-from.from 0) (sym same))
    (unknown c.args.table.now.opts (get_or c.at-text.result.now c.loop-from.from 0) (sym c.place_of.ensures ∙ c.in_err-place.ensures.ok_part)) in
    let v = c.in_err-place.ensures.value in
    let n : c.place_of.result ≡ None = c.in_err-place.ensures.ok_part in
    let w = rw n at v in
    let same_fault : UnknownLetter (get_or c.at-text.result.now c.loop-from.from 0) ≡ c.in_err-place.field-0.0 = cc in
    rw (p.1, p.2) (q ∙ ap faulty same_fault)

pub returns-then-from-text-clause-ok : goal.returns-then-from-text-clause-ok
returns-then-from-text-clause-ok g c =
    let same : c.at-text.result.now ≡ get_or c.args.words.now c.args.self.now.used [] = c.at-text.ensures.same in
    let here = placed c.args.table.now.opts (get_or c.at-text.result.now c.loop-from.from 0) c.in_ok-place.place (sym c.place_of.ensures ∙ c.in_ok-place.ensures.ok_part) in
    inside-wanted c.args.table.now.opts c.args.words.now c.args.self.now.used c.loop-from.from c.loop-from.self.slots c.loop-from.self.count (get_or c.at-text.result.now c.loop-from.from 0) c.in_ok-place.place
    c.loop-from.invariant.inside (c.if-from-text.true ∙ ap length same) (ap (λ text. get_or text c.loop-from.from 0) (sym same)) here c.if-table-place.true

pub returns-then-table-place-clause-ok : goal.returns-then-table-place-clause-ok
returns-then-table-place-clause-ok g c =
    let same : c.at-text.result.now ≡ get_or c.args.words.now c.args.self.now.used [] = c.at-text.ensures.same in
    let here = placed c.args.table.now.opts (get_or c.at-text.result.now c.loop-from.from 0) c.in_ok-place.place (sym c.place_of.ensures ∙ c.in_ok-place.ensures.ok_part) in
    let long = ap length same in
    rw (c.note.ensures.slots, c.note.ensures.count)
    (inside-value c.args.table.now.opts c.args.words.now c.args.self.now.used c.loop-from.from c.loop-from.self.slots c.loop-from.self.count (get_or c.at-text.result.now c.loop-from.from 0) c.in_ok-place.place
    c.loop-from.invariant.inside c.requires.good (omega arith) (ap (λ text. get_or text c.loop-from.from 0) (sym same)) here c.if-table-place.true)

pub loop-from-preserved : goal.loop-from-preserved
loop-from-preserved g c =
    let same : c.at-text.result.now ≡ get_or c.args.words.now c.args.self.now.used [] = c.at-text.ensures.same in
    let here = placed c.args.table.now.opts (get_or c.at-text.result.now c.loop-from.from 0) c.in_ok-place.place (sym c.place_of.ensures ∙ c.in_ok-place.ensures.ok_part) in
    let long = ap length same in
    record {
      inside = rw (c.note-in-loop-from.ensures.slots, c.note-in-loop-from.ensures.count)
          (inside-flag c.args.table.now.opts c.args.words.now c.args.self.now.used c.loop-from.from c.loop-from.self.slots c.loop-from.self.count (get_or c.at-text.result.now c.loop-from.from 0) c.in_ok-place.place
          c.loop-from.invariant.inside c.requires.good (omega arith) (ap (λ text. get_or text c.loop-from.from 0) (sym same)) here c.if-table-place.false);
      used = c.note-in-loop-from.ensures.used ∙ c.loop-from.invariant.used;
    }

pub returns-clause-ok : goal.returns-clause-ok
returns-clause-ok g c =
    let same : c.at-text.result.now ≡ get_or c.args.words.now c.args.self.now.used [] = c.at-text.ensures.same in
    let long = ap length same in
    inside-end c.args.table.now.opts c.args.words.now c.args.self.now.used c.loop-from.from c.loop-from.self.slots c.loop-from.self.count c.loop-from.invariant.inside (omega arith)
