use Rattle.std.proofs.Common.{◌≡◌, subst, List, Some, None, OnOk, IfErr, ◌⊎◌}
use Rattle.el_family.specs.declared.family.FamilyFault.TheVariants.{NoMemory}
use Rattle.el_family.specs.Processes.{Process, process_of, processes_of, run_of}
use Rattle.el_family.specs.Families.{after_run, refusal}
use Rattle.el_family.proofs.Settled.{Runs, settled_ok, settled_due, settled_refused, settled_family}
use Rattle.el_family.proofs.family.Family.run_member.Goals as goal

pub invariant_of-self : goal.invariant_of-self
invariant_of-self c =
    let known : Runs (processes_of c.self.inside.members.items) c.args.place c.args.answers c.args.budget (process_of c.in_ok-member.member.now) (run_of c.in_ok-ran.ran) (processes_of c.in_ok-children.children.items) =
    record {
      was = rw c.self.view_is c.in_ok-member.ensures.there;
      ready = rw c.self.view_is c.in_ok-member.ensures.ready;
      runs = c.in_ok-ran.ensures.run;
      right = c.in_ok-ran.ensures.right;
      kids = c.in_ok-children.ensures;
    } in
    settled_family c.self.inside.members.items c.in_ok-children.children.items known c.settle.new.members.items c.settle.result c.settle.ensures.ok c.settle.ensures.err c.settle.ensures.fits c.self.invariant

pub returns-clause-ok : goal.returns-clause-ok
returns-clause-ok c =
    let known : Runs (processes_of c.self.inside.members.items) c.args.place c.args.answers c.args.budget (process_of c.in_ok-member.member.now) (run_of c.in_ok-ran.ran) (processes_of c.in_ok-children.children.items) =
    record {
      was = rw c.self.view_is c.in_ok-member.ensures.there;
      ready = rw c.self.view_is c.in_ok-member.ensures.ready;
      runs = c.in_ok-ran.ensures.run;
      right = c.in_ok-ran.ensures.right;
      kids = c.in_ok-children.ensures;
    } in
    subst (λ (old : List Process). OnOk c.settle.result (processes_of c.settle.new.members.items ≡ after_run old c.args.place c.args.answers c.args.budget)) c.self.view_is (settled_ok c.self.inside.members.items c.in_ok-children.children.items known (processes_of c.settle.new.members.items) c.settle.result c.settle.ensures.ok)

pub returns-clause-due : goal.returns-clause-due
returns-clause-due c =
    let known : Runs (processes_of c.self.inside.members.items) c.args.place c.args.answers c.args.budget (process_of c.in_ok-member.member.now) (run_of c.in_ok-ran.ran) (processes_of c.in_ok-children.children.items) =
    record {
      was = rw c.self.view_is c.in_ok-member.ensures.there;
      ready = rw c.self.view_is c.in_ok-member.ensures.ready;
      runs = c.in_ok-ran.ensures.run;
      right = c.in_ok-ran.ensures.right;
      kids = c.in_ok-children.ensures;
    } in
    subst (λ (old : List Process). OnOk c.settle.result (refusal old c.args.place c.args.answers c.args.budget ≡ None)) c.self.view_is (settled_due c.self.inside.members.items c.in_ok-children.children.items known (processes_of c.settle.new.members.items) c.settle.result c.settle.ensures.fits)

pub returns-clause-refused : goal.returns-clause-refused
returns-clause-refused c =
    let known : Runs (processes_of c.self.inside.members.items) c.args.place c.args.answers c.args.budget (process_of c.in_ok-member.member.now) (run_of c.in_ok-ran.ran) (processes_of c.in_ok-children.children.items) =
    record {
      was = rw c.self.view_is c.in_ok-member.ensures.there;
      ready = rw c.self.view_is c.in_ok-member.ensures.ready;
      runs = c.in_ok-ran.ensures.run;
      right = c.in_ok-ran.ensures.right;
      kids = c.in_ok-children.ensures;
    } in
    subst (λ (old : List Process). IfErr c.settle.result (λ fault. (fault ≡ NoMemory) ⊎ (refusal old c.args.place c.args.answers c.args.budget ≡ Some fault))) c.self.view_is (settled_refused c.self.inside.members.items c.in_ok-children.children.items known (processes_of c.settle.new.members.items) c.settle.result c.settle.ensures.full c.settle.ensures.only)

pub returns-clause-right : goal.returns-clause-right
returns-clause-right c =
    let known : Runs (processes_of c.self.inside.members.items) c.args.place c.args.answers c.args.budget (process_of c.in_ok-member.member.now) (run_of c.in_ok-ran.ran) (processes_of c.in_ok-children.children.items) =
    record {
      was = rw c.self.view_is c.in_ok-member.ensures.there;
      ready = rw c.self.view_is c.in_ok-member.ensures.ready;
      runs = c.in_ok-ran.ensures.run;
      right = c.in_ok-ran.ensures.right;
      kids = c.in_ok-children.ensures;
    } in
    (settled_family c.self.inside.members.items c.in_ok-children.children.items known c.settle.new.members.items c.settle.result c.settle.ensures.ok c.settle.ensures.err c.settle.ensures.fits c.self.invariant).right
