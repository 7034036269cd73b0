-- A page that is written from its first byte to its last.
use Rattle.std.proofs.Common.{◌≡◌, ℕ, ◌+◌, List, [], ◌++◌, length, take, drop, refl, ap, subst, ◌∙◌, arith, length-append, length-drop, append-nil}
use Rattle.std.proofs.lemmas.List.{take_all, drop_all}
use Rattle.page_store.specs.Page.{bytes_at, with_bytes}

-- all bytes of one page in the place of all bytes of another are that page
pub whole_page : (n : ℕ) (page from bytes : List ℕ) → length from ≡ n → bytes ≡ bytes_at from 0 n → length (with_bytes page 0 bytes) ≡ n → with_bytes page 0 bytes ≡ from
whole_page n page from bytes size read written =
    let all : bytes ≡ from = read ∙ take_all n from (omega (arith, size)) in
    let long : length (with_bytes page 0 bytes) ≡ length bytes + length (drop (0 + length bytes) page) = length-append bytes (drop (0 + length bytes) page) in
    let bytes_size : length bytes ≡ n = ap length all ∙ size in
    let rest : drop (0 + length bytes) page ≡ [] = drop_all (0 + length bytes) page (omega (arith, long, written, bytes_size, length-drop (0 + length bytes) page)) in
    ap (λ xs. bytes ++ xs) rest ∙ (append-nil bytes ∙ all)
