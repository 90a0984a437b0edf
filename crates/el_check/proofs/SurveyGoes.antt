-- A survey goes on: what it knows is of the tokens that were read.
use Rattle.el_script.proofs.Vocabulary.{Token, in_front, spelling_of, TestScope, token_line, last_line, answer}
use Rattle.std.proofs.Common.{◌≡◌, ◌∙◌, ◌++◌, ℕ, true, true≢false, is_some, List, [], ◌∷◌, Option, None, Some, Ok, refl, sym, ap, subst, append_assoc}
use Rattle.el_lex.proofs.Scans.{in_front-append}
use Rattle.el_reader.specs.declared.reader.Misread.{Misread}
use Rattle.el_reader.specs.Readers.{depth_behind, IsTaken}
use Rattle.el_check.specs.declared.braces.OpenBlocks.{OpenBlocks}
use Rattle.el_check.specs.declared.survey.Survey.{Survey}
use Rattle.el_check.specs.Braces.{fault_in, fault_behind}
use Rattle.el_check.specs.Surveys.{IsTreeKnown, IsSurvey, HasSurveyed, GoesOn}

-- ---- lines

last-pushed : (before : List Token) (token : Token) → token_line token ≡ last_line (before ++ token ∷ [])
last-pushed [] token = refl
last-pushed (one ∷ []) token = refl
last-pushed (one ∷ two ∷ before) token = last-pushed (two ∷ before) token

module _ {R : Type 0} (has_read : TestScope → R → List Token → Type 0) (depth : R → ℕ) where
  abbrev IsTree : (first : TestScope) → Survey R → (before : List Token) → Option Misread → Type 0
  IsTree = IsTreeKnown has_read depth

  abbrev Knows : (first : TestScope) → Survey R → (before : List Token) → Type 0
  Knows = IsSurvey has_read depth

  -- ---- one token more, behind which the braces stand so

  module _ (old : Survey R) (blocks : OpenBlocks) (token : Token) (goes : (after : List Token) → fault_behind old.blocks (token ∷ after) ≡ fault_behind blocks after) (right : blocks.fault ≡ None → old.blocks.fault ≡ None) where
    knows-more : (new : Survey R) → new.blocks ≡ blocks → (first : TestScope) (before : List Token) → (blocks.fault ≡ None → IsTree first old before old.misread → IsTree first new (before ++ token ∷ []) new.misread) → Knows first old before → Knows first new (before ++ token ∷ [])
    knows-more new same first before tree is = (
      λ after. ap (λ tokens. fault_in (spelling_of tokens)) (append_assoc before (token ∷ []) after) ∙ is.0 (token ∷ after) ∙ goes after ∙ sym (ap (λ b. fault_behind b after) same),
      λ none. let still = sym (ap (λ (b : OpenBlocks). b.fault) same) ∙ none in tree still (is.1 (right still)),
    )

    pub brace-wrong : is_some blocks.fault ≡ true → (first : TestScope) (before : List Token) → Knows first old before → Knows first (record old { blocks = blocks }) (before ++ token ∷ [])
    brace-wrong some first before = knows-more (record old { blocks = blocks }) refl first before (λ none. absurd (true≢false (sym some ∙ ap is_some none)))

    pub still-wrong : is_some old.misread ≡ true → (first : TestScope) (before : List Token) → Knows first old before → Knows first (record old { blocks = blocks }) (before ++ token ∷ [])
    still-wrong some first before = knows-more (record old { blocks = blocks }) refl first before (λ none. by old.misread some)
      where
        by : (found : Option Misread) → is_some found ≡ true → IsTree first old before found → IsTree first (record old { blocks = blocks }) (before ++ token ∷ []) found
        by None some is = absurd (true≢false (sym some))
        by (Some misread) some is = λ after. ap (answer first) (append_assoc before (token ∷ []) after) ∙ is (token ∷ after)

    pub right-read : (reader : R) (line : ℕ) → old.misread ≡ None → IsTaken has_read depth old.reader reader token None → line ≡ token_line token → (blocks.fault ≡ None → blocks.depth ≡ depth_behind token old.blocks.depth)
        → (first : TestScope) (before : List Token) → Knows first old before → Knows first (record old { blocks = blocks; reader = reader; last_line = line }) (before ++ token ∷ [])
    right-read reader line none taken at deep first before = knows-more (record old { blocks = blocks; reader = reader; last_line = line }) refl first before (λ still tree.
        let read = subst (IsTree first old before) none tree in
        subst (IsTree first (record old { blocks = blocks; reader = reader; last_line = line }) (before ++ token ∷ [])) (sym none)
        (taken.0 first before read.0, taken.1 ∙ ap (depth_behind token) read.1 ∙ sym (deep still), at ∙ last-pushed before token))

  -- ---- more tokens

  pub still-surveyed : (old new : Survey R) (part rest : List Token) → HasSurveyed has_read depth old → GoesOn has_read depth old part new rest → HasSurveyed has_read depth new
  still-surveyed old new part rest some goes =
      let script = in_front some.before (in_front part (Ok [])) in
      let is = goes some.first script (Ok []) (record { before = some.before; is = refl; known = some.known }) in
      record { first = some.first; before = is.before; known = is.known }

  -- the first of the tokens that are left is read
  pub one-read : (old here new : Survey R) (part : List Token) (token : Token) (rest : List Token) → GoesOn has_read depth old part here (token ∷ rest) → ((first : TestScope) (before : List Token) → Knows first here before → Knows first new (before ++ token ∷ []))
      → GoesOn has_read depth old part new rest
  one-read old here new part token rest goes put = λ first script coming is.
      let at = goes first script coming is in
      record {
        before = at.before ++ token ∷ [];
        is = at.is ∙ ap (in_front at.before) (in_front-append (token ∷ []) rest coming) ∙ sym (in_front-append at.before (token ∷ []) (in_front rest coming));
        known = put first at.before at.known;
      }
