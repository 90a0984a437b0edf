-- The reader of trees: what is read of the tokens, what is made of it, and the answer.
use Rattle.el_script.proofs.Vocabulary.{nothing, Token, TokenShape, shapes_of, PlacedFault, At, Before, Commanded, Level, Chained, Directed, Beginning, at_start, TestScope, IsLevel, Tree, Over, fault_of, fault_after, token_line, last_line, line_of, Answer, TreeRead, FaultRead, answer, ReadsTokens, Closes, wrong-answered, wrong-end-answered}
use Rattle.std.proofs.Common.{List, None, ◌≡◌, ◌<◌, ◌-◌, ℕ, zero, suc, [], ◌∷◌, ◌++◌, append_assoc, append-nil, Option, Some, Result, Ok, Err, refl, sym, ap, ap₂, ◌∙◌, subst, arith}
use Rattle.el_lex.specs.declared.token.Token.TheVariants.{Close as CloseToken}
use Rattle.el_blocks.specs.Tokens.{shape_of}
use Rattle.el_tree.specs.FirstFault.{first_line}
use Rattle.el_tree.proofs.Pushing.{nothing-follows}
use Rattle.el_reader.specs.declared.reader.Misread.{Misread}
use Rattle.el_reader.specs.declared.reader.Reader.{Reader as ReaderStruct}
use Rattle.el_reader.specs.declared.role.Role.{Role}
use Rattle.el_reader.specs.Made.{made_of, built, Built, put, made_tree, IsClosableMade, builder_told}
use Rattle.el_reader.specs.Parses.{AreMatched}
use Rattle.el_reader.specs.Readers.{MayCome, depth_behind, HasReadSome, IsTaken, open_levels, HoldsTokens, fault_line, answer_told}
use Rattle.el_reader.specs.Inspections.{HasRead, IsJudged, HasTree}
use Rattle.el_reader.proofs.Parsed.{matched-close}
use Rattle.el_reader.proofs.InspectionsGo.{begins, goes-on as token-goes-on, token-read, token-depth, token-wrong, tree-answered}
use Rattle.el_reader.proofs.MadeGoes.{makes}

-- a level that is right so far may be closed
made-closable : (level : Level) → IsLevel level nothing → IsClosableMade (made_of level)
made-closable (Chained nodes (Commanded nothing)) is = nothing-follows nodes is.1
made-closable (Directed directives None) is = tt
made-closable level is = tt

-- so what is made of a script may be a tree, and its innermost level a block
pub closable : (reader : ReaderStruct) → HasReadSome HoldsTokens reader → IsClosableMade (builder_told reader.builder).made
closable reader some =
    subst (λ (all : Built). IsClosableMade all.made) (sym some.has.builds) (made-closable some.has.has.to.level (begins some.first reader.inspection some.before some.has.has).within)

-- ---- one token more

-- before anything is read
pub nothing-held : (first : TestScope) (reader : ReaderStruct) (has : HasRead first reader.inspection []) → builder_told reader.builder ≡ built at_start → HoldsTokens first reader []
nothing-held first reader has builds = record { has = has; builds = builds ∙ ap built has.reads }

-- a token is put where what it is says
pub token-taken : (old new : ReaderStruct) (token : Token) (role : Role) → MayCome token (open_levels old) → IsJudged old.inspection (shape_of token) new.inspection (Ok role)
    → builder_told new.builder ≡ put role (shape_of token) (builder_told old.builder) → IsTaken HoldsTokens open_levels old new token None
token-taken old new token role may judged puts = (
  λ first before holds.
      let to = holds.has.to in
      let on = token-goes-on first old.inspection before holds.has token role may judged.0 in
      record {
        has = token-read first old.inspection new.inspection before holds.has token role on judged;
        builds =
            puts
            ∙ ap (put role (shape_of token)) holds.builds
            ∙ ap (λ (role : Role). put role (shape_of token) (built to)) on.is_role
            ∙ sym (makes first to (shape_of token) (begins first old.inspection before holds.has) on.right on.fits);
      },
  token-depth old.inspection new.inspection token role judged,
)

-- or this is wrong with it
pub wrong-taken : (old new : ReaderStruct) (token : Token) (found : PlacedFault) → IsJudged old.inspection (shape_of token) new.inspection (Err found) → IsTaken HoldsTokens open_levels old new token (Some found)
wrong-taken old new token found judged = λ first before after holds.
    wrong-answered first holds.has.to before token after found holds.has.reads (token-wrong first old.inspection before holds.has token found judged.0)

-- ---- the loop

-- these tokens are left, and what is read of the ones before them is held
pub record IsReading (first : TestScope) (tokens : List Token) (reader : ReaderStruct) (last : ℕ) (after : List Token) : Type 0 where
  pub before : List Token
  pub are_tokens : before ++ after ≡ tokens
  pub is_last : last ≡ last_line before
  pub holds : HoldsTokens first reader before
  pub closes : Closes (open_levels reader) (shapes_of after)

pub starts : (first : TestScope) (tokens : List Token) (reader : ReaderStruct) → AreMatched tokens → HoldsTokens first reader [] → open_levels reader ≡ 0 → IsReading first tokens reader 0 tokens
starts first tokens reader matched holds closed = record {
  before = [];
  are_tokens = refl;
  is_last = refl;
  holds = holds;
  closes = subst (λ (depth : ℕ). Closes depth (shapes_of tokens)) (sym closed) (matched-close tokens matched);
}

comes : (token : Token) (depth : ℕ) (shapes : List TokenShape) → Closes depth (shape_of token ∷ shapes) → MayCome token depth
comes (CloseToken line) zero shapes closes = absurd closes
comes (CloseToken line) (suc depth) shapes closes = let some : 0 < suc depth = omega arith in some
comes token depth shapes closes = tt

closes-behind : (token : Token) (depth : ℕ) (shapes : List TokenShape) → Closes depth (shape_of token ∷ shapes) → Closes (depth_behind token depth) shapes
closes-behind (CloseToken line) zero shapes closes = absurd closes
closes-behind (CloseToken line) (suc depth) shapes closes = let same : depth ≡ suc depth - 1 = omega arith in subst (λ (depth : ℕ). Closes depth shapes) same closes
closes-behind token depth shapes closes = closes

none-left : (depth : ℕ) → Closes depth [] → depth ≡ 0
none-left zero closes = refl
none-left (suc depth) closes = absurd closes

last-pushed : (before : List Token) (token : Token) → token_line token ≡ last_line (before ++ token ∷ [])
last-pushed (one ∷ two ∷ before) token = last-pushed (two ∷ before) token
last-pushed before token = refl

-- the code tells of what is wrong behind tokens that were read
pub misread-told : (before after : List Token) (last : ℕ) (found : PlacedFault) (misread : Misread) (read : Answer) → read ≡ FaultRead (fault_of found) (line_of before after found) → last ≡ last_line before
    → misread.fault ≡ fault_of found → misread.line ≡ fault_line found (first_line after) last → FaultRead misread.fault misread.line ≡ read
misread-told before after last (At found) misread read wrong is_last fault line = ap₂ FaultRead fault line ∙ sym wrong
misread-told before after last (Before found) misread read wrong is_last fault line = ap₂ FaultRead fault (line ∙ is_last) ∙ sym wrong

module _ {first : TestScope} {tokens : List Token} {reader : ReaderStruct} {last : ℕ} {left : List Token} (reading : IsReading first tokens reader last left) where
  pub reads-some : HasReadSome HoldsTokens reader
  reads-some = record { first = first; before = reading.before; has = reading.holds }

  module _ {after : List Token} {token : Token} (are : left ≡ token ∷ after) where
    here : IsReading first tokens reader last (token ∷ after)
    here = subst (IsReading first tokens reader last) are reading

    pub may-come : MayCome token (open_levels reader)
    may-come = comes token (open_levels reader) (shapes_of after) here.closes

    pub fault-read : {result : Option PlacedFault} {found : PlacedFault} (misread : Misread) (more : ReaderStruct) → IsTaken HoldsTokens open_levels reader more token result → result ≡ Some found
        → misread.fault ≡ fault_of found → misread.line ≡ fault_line found (token_line token) last → FaultRead misread.fault misread.line ≡ answer first tokens
    fault-read {result} {found} misread more taken is_wrong fault line =
        let wrong = subst (IsTaken HoldsTokens open_levels reader more token) is_wrong taken first here.before after here.holds in
        misread-told here.before (token ∷ after) last found misread (answer first tokens) (ap (answer first) (sym here.are_tokens) ∙ wrong) here.is_last fault line

    pub goes-on : {result : Option PlacedFault} {line : ℕ} (more : ReaderStruct) → IsTaken HoldsTokens open_levels reader more token result → result ≡ None → line ≡ token_line token → IsReading first tokens more line after
    goes-on {result} more result_is is_right is_line =
        let taken = subst (IsTaken HoldsTokens open_levels reader more token) is_right result_is in
        record {
          before = here.before ++ token ∷ [];
          are_tokens = append_assoc here.before (token ∷ []) after ∙ here.are_tokens;
          is_last = is_line ∙ last-pushed here.before token;
          holds = taken.0 first here.before here.holds;
          closes = subst (λ (depth : ℕ). Closes depth (shapes_of after)) (sym taken.1) (closes-behind token (open_levels reader) (shapes_of after) here.closes);
        }

  -- ---- in the end

  module _ (none : left ≡ []) where
    pub all-closed : open_levels reader ≡ 0
    all-closed = none-left (open_levels reader) (subst (λ (left : List Token). Closes (open_levels reader) (shapes_of left)) none reading.closes)

    pub end-read : (read : Result Tree Misread) → ((before : List Token) → HoldsTokens first reader before → last ≡ last_line before → answer_told read ≡ answer first before) → answer_told read ≡ answer first tokens
    end-read read told = told reading.before reading.holds reading.is_last ∙ ap (answer first) (sym (append-nil reading.before) ∙ ap (λ (left : List Token). reading.before ++ left) (sym none) ∙ reading.are_tokens)

-- tokens that are those of a tree have no fault at the end
right-end : (first : TestScope) (to : Beginning) (tokens : List Token) (tree : Tree) (found : Option PlacedFault) → ReadsTokens first at_start (shapes_of tokens) to → answer first tokens ≡ TreeRead tree → fault_after first to Over ≡ found → found ≡ None
right-end first to tokens tree None reads is wrong = refl
right-end first to tokens tree (Some found) reads is wrong = let both : FaultRead (fault_of found) (line_of tokens [] found) ≡ TreeRead tree = sym (wrong-end-answered first to tokens found reads wrong) ∙ is in absurd (cc)

pub tree-end : (first : TestScope) (tokens : List Token) (reader : ReaderStruct) (tree : Tree) (holds : HoldsTokens first reader tokens) → HasTree first tokens → open_levels reader ≡ 0
    → tree ≡ made_tree (builder_told reader.builder).made → TreeRead tree ≡ answer first tokens
tree-end first tokens reader tree holds has closed is =
    let right = right-end first holds.has.to tokens has.tree _ holds.has.reads has.is refl in
    ap TreeRead (is ∙ ap (λ (all : Built). made_tree all.made) holds.builds) ∙ sym (tree-answered first reader.inspection tokens holds.has right closed)
