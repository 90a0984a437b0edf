use Rattle.std.proofs.Common.{◌≡◌, Bool, List, ℕ, Option, IsTrue, ◌↔◌, Any, Contains, is_some, subst}
use Rattle.std.specs.List.{concat}
use Rattle.memchr.specs.Find.{IsFirstByte, is_byte}
use Rattle.el_words.proofs.Slices.{found-Contains, Contains-concat, Any-concat}
use Rattle.el_words.proofs.words.buffer.Buffer.holds.Goals as goal

holds : (words : List (List ℕ)) (byte : ℕ) (joined : List ℕ) (found : Option ℕ) (result : Bool) → joined ≡ concat words → IsFirstByte (is_byte byte) joined found → result ≡ is_some found
    → IsTrue result ↔ Any (λ word. Contains word byte) words
holds words byte joined found result joined_is first result_is =
    let P : List ℕ → Type 0 = λ bytes. IsTrue (is_some found) ↔ Contains bytes byte in
    let there = subst P joined_is (found-Contains joined byte found first) in
    rw result_is (λ yes. Contains-concat words byte (there.0 yes), λ some. there.1 (Any-concat words byte some))

pub returns : goal.returns
returns c = holds _ c.args.byte _ _ _ c.joined.ensures c.memchr.ensures c.is_some.ensures
