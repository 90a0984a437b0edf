use Rattle.el_room.proofs.Vocabulary.{and_parts, bytes_eq}
use Rattle.std.proofs.Common.{sym, ap, ◌∙◌}
use Rattle.std.specs.Prelude.{◌&&◌, slice_get}
use Rattle.el_app.specs.Names.{execline_name}
use Rattle.el_multicall.specs.Record.{elrecord_name, is_named_elrecord}
use Rattle.el_multicall.proofs.Chosen.{no_words, named_first, named_second, not_named, has_second, has_first}
use Rattle.el_multicall.proofs.top.elrecord_place.Goals as goal

pub returns-in_default-clause-words : goal.returns-in_default-clause-words
returns-in_default-clause-words c = no_words c.args.words.now c.in_default.ensures

pub returns-then-is_elrecord-clause-words : goal.returns-then-is_elrecord-clause-words
returns-then-is_elrecord-clause-words c =
    named_first c.args.words.now c.in-Some.first.now c.in-Some.ensures (ap (λ n. bytes_eq n elrecord_name) (sym c.base_name-name.ensures) ∙ sym c.if-is_elrecord.ensures)

pub returns-then-is_elrecord-clause-within : goal.returns-then-is_elrecord-clause-within
returns-then-is_elrecord-clause-within c = has_first c.args.words.now c.in-Some.first.now c.in-Some.ensures

pub returns-then-leads_to_elrecord-clause-words : goal.returns-then-leads_to_elrecord-clause-words
returns-then-leads_to_elrecord-clause-words c =
    named_second c.args.words.now c.in-Some.first.now c.in-Some.ensures (ap (λ n. bytes_eq n elrecord_name) (sym c.base_name-name.ensures) ∙ sym c.if-is_elrecord.ensures)
    (ap (λ n. bytes_eq n execline_name && is_named_elrecord (slice_get c.args.words.now 1)) (sym c.base_name-name.ensures) ∙ ap (λ o. bytes_eq c.base_name-name.result.now execline_name && is_named_elrecord o) (sym c.get.ensures) ∙ sym c.if-leads_to_elrecord.ensures)

pub returns-then-leads_to_elrecord-clause-within : goal.returns-then-leads_to_elrecord-clause-within
returns-then-leads_to_elrecord-clause-within c =
    has_second c.args.words.now (ap is_named_elrecord (sym c.get.ensures) ∙ (and_parts _ _ (sym c.if-leads_to_elrecord.ensures)).1)

pub returns-clause-words : goal.returns-clause-words
returns-clause-words c =
    not_named c.args.words.now c.in-Some.first.now c.in-Some.ensures (ap (λ n. bytes_eq n elrecord_name) (sym c.base_name-name.ensures) ∙ sym c.if-is_elrecord.ensures)
    (ap (λ n. bytes_eq n execline_name && is_named_elrecord (slice_get c.args.words.now 1)) (sym c.base_name-name.ensures) ∙ ap (λ o. bytes_eq c.base_name-name.result.now execline_name && is_named_elrecord o) (sym c.get.ensures) ∙ sym c.if-leads_to_elrecord.ensures)
