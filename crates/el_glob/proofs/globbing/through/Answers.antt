use Rattle.std.proofs.Common.{subst, get_or, List, Ok, Err, arith}
use Rattle.std.proofs.lemmas.List.{drop_more}
use Rattle.std.proofs.Math.ListN.{drop_of_length-le}
use Rattle.el_glob.specs.declared.part.Part.{Part}
use Rattle.el_glob.specs.Listings.{part_step}
use Rattle.el_glob.specs.Lists.{Follows}
use Rattle.el_glob.proofs.Lists.{Through, through-start, through-part, through-stop, through-end}
use Rattle.el_glob.proofs.globbing.through.Goals as goal

pub loop-part-init : goal.loop-part-init
loop-part-init g c = through-start _ _ _ _

pub loop-part-preserved : goal.loop-part-preserved
loop-part-preserved g c =
    let parts = c.args.parts.now in
    let P : List Part → Type 0 = λ rest. Through c.args.dir.now parts c.args.paths (g.L.Lister.seen c.args.lister.now) (g.L.Lister.seen c.loop-part.lister) rest c.loop-part.paths in
    let Q : Part → Type 0 = λ part. Follows (g.L.Lister.seen c.loop-part.lister) (g.L.Lister.seen c.next_paths.new.lister) (part_step c.args.dir.now part c.loop-part.paths) (Ok c.in-Ok.next) in
    through-part _ _ _ _ (get_or parts c.loop-part.part-index c.part-item.result) _ _ (subst P (drop_more parts c.loop-part.part-index c.part-item.result (omega arith)) c.loop-part.invariant) (subst Q c.part-item.is c.in-Ok.ensures)

pub returns-in-Err : goal.returns-in-Err
returns-in-Err g c =
    let parts = c.args.parts.now in
    let P : List Part → Type 0 = λ rest. Through c.args.dir.now parts c.args.paths (g.L.Lister.seen c.args.lister.now) (g.L.Lister.seen c.loop-part.lister) rest c.loop-part.paths in
    let Q : Part → Type 0 = λ part. Follows (g.L.Lister.seen c.loop-part.lister) (g.L.Lister.seen c.next_paths.new.lister) (part_step c.args.dir.now part c.loop-part.paths) (Err c.in-Err.fault) in
    through-stop _ _ _ _ _ _ _ (get_or parts c.loop-part.part-index c.part-item.result) _ c.in-Err.fault (subst P (drop_more parts c.loop-part.part-index c.part-item.result (omega arith)) c.loop-part.invariant) (subst Q c.part-item.is c.in-Err.ensures)

pub returns : goal.returns
returns g c =
    let parts = c.args.parts.now in
    let P : List Part → Type 0 = λ rest. Through c.args.dir.now parts c.args.paths (g.L.Lister.seen c.args.lister.now) (g.L.Lister.seen c.loop-part.lister) rest c.loop-part.paths in
    through-end _ _ _ _ (subst P (drop_of_length-le parts (omega arith)) c.loop-part.invariant)
