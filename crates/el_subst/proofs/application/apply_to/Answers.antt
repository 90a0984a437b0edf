use Rattle.std.proofs.Common.{◌≡◌, ℕ, List, [], length, sym, ap, subst, ◌∙◌, None, Some, arith}
use Rattle.std.proofs.lemmas.Bool.{eqb-true}
use Rattle.std.proofs.lemmas.List.{nil_from_length}
use Rattle.std.proofs.lemmas.Result.{IfOk-weaker}
use Rattle.memchr.specs.Find.{IsFirst}
use Rattle.el_words.specs.Args.{Args, spelled}
use Rattle.el_words.specs.Word.{HoldsByteAt}
use Rattle.el_subst.specs.Values.{Pairs, words_value}
use Rattle.el_subst.specs.Scopes.{put}
use Rattle.el_subst.specs.Staying.{AreChanged}
use Rattle.el_subst.proofs.Staying.{Stay-plain, Changed-before, value-plain-words, value-behind}
use Rattle.el_subst.proofs.Spelled.{values_spelled}
use Rattle.el_subst.proofs.application.apply_to.Goals as goal

-- no word holds a `$`
none-found : (pairs : Pairs) (words after : List (List ℕ)) → after ≡ words → IsFirst (HoldsByteAt words 36) 0 (length words) None → after ≡ words_value pairs words
none-found pairs words after same none = same ∙ sym (value-plain-words pairs words none)

-- none of those behind the first `$` changes
none-changed : (pairs lookup : Pairs) (words after : List (List ℕ)) (dollar : ℕ) (changed : List ℕ) → lookup ≡ pairs → after ≡ words → IsFirst (HoldsByteAt words 36) 0 (length words) (Some dollar)
    → changed ≡ [] → AreChanged lookup after dollar changed (length after) → after ≡ words_value pairs words
none-changed pairs lookup words after dollar changed looked same first none are =
    let P : List (List ℕ) → Type 0 = λ words. IsFirst (HoldsByteAt words 36) 0 (length words) (Some dollar) in
    let Q : List ℕ → Type 0 = λ places. AreChanged lookup after dollar places (length after) in
    sym (value-behind lookup after dollar (subst P (sym same) first) (subst Q none are)) ∙ (λ i. words_value (looked i) (same i))

-- those before it don't
changed-before : (lookup : Pairs) (words after : List (List ℕ)) (dollar : ℕ) (changed : List ℕ) → after ≡ words → IsFirst (HoldsByteAt words 36) 0 (length words) (Some dollar)
    → AreChanged lookup after dollar changed (length after) → AreChanged lookup after 0 changed (length after)
changed-before lookup words after dollar changed same first are =
    let P : List (List ℕ) → Type 0 = λ words. IsFirst (HoldsByteAt words 36) 0 (length words) (Some dollar) in
    let here = subst P (sym same) first in
    Changed-before lookup after dollar changed (length after) (Stay-plain lookup after dollar (omega (arith, here.0.high)) here.0.before) are

-- the values of a spelling are a spelling
spelling-of : (pairs : Pairs) (words made : List (List ℕ)) → made ≡ words_value pairs words → (depth : ℕ) (args : Args) → words ≡ spelled depth args → made ≡ spelled depth (put pairs args)
spelling-of pairs words made is depth args same = is ∙ ap (words_value pairs) same ∙ values_spelled pairs depth args

pub returns-in_default-clause-values : goal.returns-in_default-clause-values
returns-in_default-clause-values c =
    none-found c.args.subst.now c.args.words c.first_dollar.new.self c.first_dollar.ensures.same
    (subst (IsFirst (HoldsByteAt c.args.words 36) 0 (length c.args.words)) c.in_default.is c.first_dollar.ensures.first)

pub returns-in_default-clause-spelling : goal.returns-in_default-clause-spelling
returns-in_default-clause-spelling c =
    spelling-of c.args.subst.now c.args.words c.first_dollar.new.self
    (none-found c.args.subst.now c.args.words c.first_dollar.new.self c.first_dollar.ensures.same
    (subst (IsFirst (HoldsByteAt c.args.words 36) 0 (length c.args.words)) c.in_default.is c.first_dollar.ensures.first))

pub returns-then-is_empty-clause-values : goal.returns-then-is_empty-clause-values
returns-then-is_empty-clause-values c =
    none-changed c.args.subst.now c.in_ok-lookup.lookup c.args.words c.first_dollar.new.self c.in-Some.dollar c.in_ok-changed.changed.items c.in_ok-lookup.ensures c.first_dollar.ensures.same c.in-Some.ensures.first
    (nil_from_length _ (sym c.in_ok-changed.changed.ok.0 ∙ eqb-true _ 0 (sym c.is_empty.ensures ∙ c.if-is_empty.true))) c.in_ok-changed.ensures

pub returns-then-is_empty-clause-spelling : goal.returns-then-is_empty-clause-spelling
returns-then-is_empty-clause-spelling c =
    spelling-of c.args.subst.now c.args.words c.first_dollar.new.self
    (none-changed c.args.subst.now c.in_ok-lookup.lookup c.args.words c.first_dollar.new.self c.in-Some.dollar c.in_ok-changed.changed.items c.in_ok-lookup.ensures c.first_dollar.ensures.same c.in-Some.ensures.first
    (nil_from_length _ (sym c.in_ok-changed.changed.ok.0 ∙ eqb-true _ 0 (sym c.is_empty.ensures ∙ c.if-is_empty.true))) c.in_ok-changed.ensures)

pub all_values-requires : goal.all_values-requires
all_values-requires c =
    let P : List ℕ → Type 0 = λ places. AreChanged c.in_ok-lookup.lookup c.first_dollar.new.self 0 places (length c.first_dollar.new.self) in
    subst P (sym c.deref.ensures.value)
    (changed-before c.in_ok-lookup.lookup c.args.words c.first_dollar.new.self c.in-Some.dollar c.in_ok-changed.changed.items c.first_dollar.ensures.same c.in-Some.ensures.first c.in_ok-changed.ensures)

pub returns-clause-values : goal.returns-clause-values
returns-clause-values c =
    IfOk-weaker c.all_values.result
    (λ made. made ≡ words_value c.in_ok-lookup.lookup c.first_dollar.new.self)
    (λ made. made ≡ words_value c.args.subst.now c.args.words)
    (λ made is. is ∙ (λ i. words_value (c.in_ok-lookup.ensures i) (c.first_dollar.ensures.same i)))
    c.all_values.ensures

pub returns-clause-spelling : goal.returns-clause-spelling
returns-clause-spelling c =
    IfOk-weaker c.all_values.result
    (λ made. made ≡ words_value c.in_ok-lookup.lookup c.first_dollar.new.self)
    (λ made. (depth : ℕ) (args : Args) → c.args.words ≡ spelled depth args → made ≡ spelled depth (put c.args.subst.now args))
    (λ made is. spelling-of c.args.subst.now c.args.words made (is ∙ (λ i. words_value (c.in_ok-lookup.ensures i) (c.first_dollar.ensures.same i))))
    c.all_values.ensures
