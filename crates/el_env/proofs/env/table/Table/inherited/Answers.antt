use Rattle.std.proofs.Common.{ap, ◌∙◌, sym, subst, map as mapped}
use Rattle.std.specs.FinMap as map
use Rattle.el_env.specs.Name.{NamesAreGood}
use Rattle.el_env.specs.Variable.{pair_of}
use Rattle.el_env.specs.Inherited.{listed, AreRising, HaveNoNul}
use Rattle.el_env.proofs.Named.{vars_of, from_entries-entries}
use Rattle.el_env.proofs.GoodNames.{NamesAreGood-listed}
use Rattle.el_env.proofs.env.table.Table.inherited.Goals as goal

pub of-requires : goal.of-requires
of-requires c =
    subst AreRising (sym (ap (mapped pair_of) c.deref.ensures.value ∙ c.in_ok-variables.ensures)) (map.entries_sorted (listed (mapped pair_of c.args.variables.items)))

pub returns : goal.returns
returns c =
    ap (λ es. vars_of es c.in_ok-of.field-0) c.new.ensures.empty
    ∙ ap listed (c.in_ok-of.ensures.all ∙ ap (mapped pair_of) c.deref.ensures.value ∙ c.in_ok-variables.ensures)
    ∙ from_entries-entries (listed (mapped pair_of c.args.variables.items))

pub invariant_of-result : goal.invariant_of-result
invariant_of-result c =
    let same = ap listed (c.in_ok-of.ensures.all ∙ ap (mapped pair_of) c.deref.ensures.value ∙ c.in_ok-variables.ensures)
    ∙ from_entries-entries (listed (mapped pair_of c.args.variables.items)) in
    subst NamesAreGood (ap (λ es. vars_of es c.in_ok-of.field-0) (sym c.new.ensures.empty))
    (NamesAreGood-listed (mapped pair_of c.args.variables.items) c.in_ok-of.field-0 c.requires (subst HaveNoNul (sym c.in_ok-of.ensures.all) c.in_ok-of.ensures.no_nul) same)
