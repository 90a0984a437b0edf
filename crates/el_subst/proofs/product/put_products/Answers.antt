use Rattle.std.proofs.Common.{◌≡◌, ◌<◌, ◌≤◌, ◌∙◌, [], ◌∷◌, sym, subst, take, length, arith}
use Rattle.std.proofs.lemmas.Grind.{common_steps}
use Rattle.el_subst.specs.Values.{products}
use Rattle.el_subst.specs.Pieces.{choices_of}
use Rattle.el_subst.specs.Places.{count_of}
use Rattle.el_subst.specs.Sizes.{HasRoom, Puts}
use Rattle.el_subst.proofs.Products.{length-products, counted_all, HasRoom-product, Puts-product}
use Rattle.el_subst.proofs.Sizes.{HasRoom-word, Puts-word}
use Rattle.el_subst.proofs.product.put_products.Goals as goal

pub make_product-requires-clause-all : goal.make_product-requires-clause-all
make_product-requires-clause-all c = counted_all c.args.room.now (choices_of c.args.pieces.now) c.count-total.result c.requires c.count-total.ensures

-- there is room for the product that was made
fits : (c : goal.After-deref) → (0 < c.loop-place.room.spare_words) × (length c.deref.result.now ≤ c.loop-place.room.spare_bytes)
fits c =
    let choices = choices_of c.args.pieces.now in
    let all = counted_all c.args.room.now choices c.count-total.result c.requires c.count-total.ensures in
    let within : c.loop-place.place < count_of choices = subst (λ n. c.loop-place.place < n) all c.loop-place-test.true in
    let made = c.deref.ensures.value ∙ c.in_ok-make_product.ensures.same in
    HasRoom-word c.loop-place.room c.deref.result.now
    (subst (λ word. HasRoom c.loop-place.room (word ∷ [])) (sym made) (HasRoom-product c.args.room.now c.loop-place.room choices c.loop-place.place within c.requires c.loop-place.invariant))

pub push-requires-clause-one_more : goal.push-requires-clause-one_more
push-requires-clause-one_more c = (fits c).0

pub push-requires-clause-fits : goal.push-requires-clause-fits
push-requires-clause-fits c = (fits c).1

pub loop-place-preserved : goal.loop-place-preserved
loop-place-preserved c =
    let choices = choices_of c.args.pieces.now in
    let all = counted_all c.args.room.now choices c.count-total.result c.requires c.count-total.ensures in
    let within : c.loop-place.place < count_of choices = subst (λ n. c.loop-place.place < n) all c.loop-place-test.true in
    let made = c.deref.ensures.value ∙ c.in_ok-make_product.ensures.same in
    let put = Puts-word c.loop-place.room c.push.new.self c.deref.result.now c.push.ensures.words c.push.ensures.spare_words c.push.ensures.spare_bytes in
    Puts-product c.args.room.now c.loop-place.room c.push.new.self choices c.loop-place.place within c.loop-place.invariant
    (subst (λ word. Puts c.loop-place.room c.push.new.self (word ∷ [])) made put)

pub returns : goal.returns
returns c =
    let choices = choices_of c.args.pieces.now in
    let total = counted_all c.args.room.now choices c.count-total.result c.requires c.count-total.ensures in
    let size = length-products choices in
    let all : take c.loop-place.place (products choices) ≡ products choices = grind (arith, common_steps) in
    subst (Puts c.args.room.now c.loop-place.room) all c.loop-place.invariant
