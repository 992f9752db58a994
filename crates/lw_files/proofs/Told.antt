-- What is known of a file that was opened and read.
use Rattle.std.proofs.Common.{◌≡◌, ◌⊎◌, inl, inr, ℕ, ◌<◌, ◌≤◌, List, length, Option, None, Some, Ok, Err, IsSome, refl, sym, ap, ◌∙◌, subst}
use Rattle.std.proofs.lemmas.Bool.{le-leb, lt-leb}
use Rattle.lw_io.specs.declared.file.File.{File}
use Rattle.lw_io.specs.Causes.{Rose}
use Rattle.lw_io.specs.Files.{bytes_of, Opens, IsMissing}
use Rattle.lw_files.specs.declared.fault.FileFault.TheVariants.{Unread, TooLong}
use Rattle.lw_files.specs.Sources.{text_of, within_limit}

-- a file that is missing is not read
pub not_read : (told : Option (List File)) (name : List ℕ) (before now : ℕ) → Rose before now ⊎ IsMissing told name → Rose before now ⊎ ((files : List File) × (told ≡ Some files) × (text_of name (bytes_of files) ≡ Err Unread))
unfolding text_of
not_read told name before now (inl rose) = inl rose
not_read None name before now (inr missing) = absurd missing
not_read (Some files) name before now (inr missing) = inr (files, refl, ap within_limit missing)

short : (o : Option (List ℕ)) (text : List ℕ) → IsSome o → ((bytes : List ℕ) → o ≡ Some bytes → (length bytes ≤ 67108864) × (text ≡ bytes)) → within_limit o ≡ Ok text
short None text some known = cc
short (Some bytes) text some known = let k = known bytes refl in rw (le-leb _ _ k.0) (ap (λ t. Ok t) (sym k.1))

long : (o : Option (List ℕ)) → IsSome o → ((bytes : List ℕ) → o ≡ Some bytes → 67108864 < length bytes) → within_limit o ≡ Err TooLong
long None some known = cc
long (Some bytes) some known = rw (lt-leb _ _ (known bytes refl)) refl

-- a file that was read to its end
pub read_whole : (told : Option (List File)) (name : List ℕ) (left : Option (List ℕ)) (text : List ℕ) (files : List File) → Opens told name left → ((bytes : List ℕ) → left ≡ Some bytes → (length bytes ≤ 67108864) × (text ≡ bytes)) → told ≡ Some files → text_of name (bytes_of files) ≡ Ok text
unfolding text_of
read_whole told name left text files opens known is =
    let o : Opens (Some files) name left = subst (λ t. Opens t name left) is opens in
    short (bytes_of files name) text o.0 (λ bytes e. known bytes (o.1 ∙ e))

-- a file that is too long
pub read_long : (told : Option (List File)) (name : List ℕ) (left : Option (List ℕ)) (files : List File) → Opens told name left → ((bytes : List ℕ) → left ≡ Some bytes → 67108864 < length bytes) → told ≡ Some files → text_of name (bytes_of files) ≡ Err TooLong
unfolding text_of
read_long told name left files opens known is =
    let o : Opens (Some files) name left = subst (λ t. Opens t name left) is opens in
    long (bytes_of files name) o.0 (λ bytes e. known bytes (o.1 ∙ e))
