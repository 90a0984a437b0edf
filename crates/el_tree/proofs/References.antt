-- What a member does to a word, by the references of the word: a literal word, which has none, keeps one word.
use Rattle.std.proofs.Common.{◌≡◌, ℕ, ◌==◌, ◌%◌, Bool, true, false, not, ◌&&◌, ◌||◌, List, [], ◌∷◌, refl, sym, ap, ◌∙◌, subst}
use Rattle.std.specs.List.{list_any}
use Rattle.std.proofs.lemmas.Bool.{and_from}
use Rattle.el_subst.specs.Parts.{Part, Byte, Reference, parts_of}
use Rattle.el_subst.specs.References.{Referred, references_in, references_of}
use Rattle.el_subst.proofs.Referring.{none-refers}
use Rattle.el_tree.specs.OptionWords.{is_literal}
use Rattle.el_tree.specs.Marks.{Member, marks, marks_many, puts_many, touches, keeps_one}
use Rattle.el_tree.proofs.OneWord.{no-dollar}

-- of a reference with so many backslashes before it
abbrev puts_at : Member → Referred → Bool
puts_at member found = not (found.0 % 2 == 1) && marks_many member found.1

abbrev touches_at : Member → Referred → Bool
touches_at member found = marks member found.1

puts-in : (member : Member) (parts : List Part) → list_any (puts_many member) parts ≡ list_any (puts_at member) (references_in parts)
puts-in member [] = refl
puts-in member (Byte byte ∷ parts) = puts-in member parts
puts-in member (Reference slashes key text ∷ parts) = ap (λ b. puts_at member (slashes, key) || b) (puts-in member parts)

touches-in : (member : Member) (parts : List Part) → list_any (touches member) parts ≡ list_any (touches_at member) (references_in parts)
touches-in member [] = refl
touches-in member (Byte byte ∷ parts) = touches-in member parts
touches-in member (Reference slashes key text ∷ parts) = ap (λ b. touches_at member (slashes, key) || b) (touches-in member parts)

-- ---- the first reference, and what follows it

pub puts-none : (member : Member) (word : List ℕ) → references_of word ≡ [] → list_any (puts_many member) (parts_of word) ≡ false
puts-none member word none = puts-in member (parts_of word) ∙ ap (list_any (puts_at member)) none

pub puts-next : (member : Member) (word rest : List ℕ) (slashes : ℕ) (key : List ℕ) → references_of word ≡ (slashes, key) ∷ references_of rest
    → list_any (puts_many member) (parts_of word) ≡ ((not (slashes % 2 == 1) && marks_many member key) || list_any (puts_many member) (parts_of rest))
puts-next member word rest slashes key is =
    puts-in member (parts_of word) ∙ ap (list_any (puts_at member)) is ∙ ap (λ b. puts_at member (slashes, key) || b) (sym (puts-in member (parts_of rest)))

pub touches-none : (member : Member) (word : List ℕ) → references_of word ≡ [] → list_any (touches member) (parts_of word) ≡ false
touches-none member word none = touches-in member (parts_of word) ∙ ap (list_any (touches_at member)) none

pub touches-next : (member : Member) (word rest : List ℕ) (slashes : ℕ) (key : List ℕ) → references_of word ≡ (slashes, key) ∷ references_of rest
    → list_any (touches member) (parts_of word) ≡ (marks member key || list_any (touches member) (parts_of rest))
touches-next member word rest slashes key is =
    touches-in member (parts_of word) ∙ ap (list_any (touches_at member)) is ∙ ap (λ b. touches_at member (slashes, key) || b) (sym (touches-in member (parts_of rest)))

-- ---- literal words

pub literal-keeps : (members : List Member) (text : List ℕ) → is_literal text ≡ true → keeps_one false members (parts_of text) ≡ true
literal-keeps [] text literal = refl
literal-keeps (member ∷ members) text literal =
    let none : references_of text ≡ [] = none-refers text (λ k low. no-dollar text literal k) in
    and_from _ _ (ap not (puts-none member text none))
    (subst (λ touched. keeps_one touched members (parts_of text) ≡ true) (sym (touches-none member text none)) (literal-keeps members text literal))
