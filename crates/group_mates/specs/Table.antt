-- What the tables hold by which mates are found.
use Rattle.std.specs.Prelude.{ℕ, zero, suc, ◌+◌, ◌*◌, ◌/◌, ◌%◌, ◌<◌, ◌≤◌, cond, List, ◌≡◌, eqb, length, get_or}
use Rattle.fields.specs.Layout.{name_in}
use Rattle.group_frames.specs.Frame.{record_of}
use Rattle.group_names.specs.Digest.{digest_of}
use Rattle.group_mates.specs.Register.{role_in, mates_of}

-- records of one name and role have one key
unfoldable pub key_in : List ℕ → ℕ
key_in r = digest_of (name_in r) * 4 + role_in r

pub record Keyed (s key : List ℕ) (n : ℕ) : Type 0 where
  pub wide : 256 ≤ length key
  pub keys : (k : ℕ) → k < n → get_or key k 0 ≡ key_in (record_of s k)

-- records are chained by their name's digest: each links to the one before it in its chain
abbrev pub chain_of : ℕ → ℕ
chain_of d = d / 4 / 268435456 % 256

-- one more than the last, of the first n records, that is of chain h; 0: none
unfoldable pub last_in : List ℕ → ℕ → ℕ → ℕ
last_in key h zero = 0
last_in key h (suc n) = cond (eqb (chain_of (get_or key n 0)) h) (suc n) (last_in key h n)

-- the heads are of the chains that the records are in; of other chains nothing is said
pub record Chained (key head next : List ℕ) (n : ℕ) : Type 0 where
  pub wide : 256 ≤ length head
  pub long : 256 ≤ length next
  pub heads : (k : ℕ) → k < n → get_or head (chain_of (get_or key k 0)) 0 ≡ last_in key (chain_of (get_or key k 0)) n
  pub links : (k : ℕ) → k < n → get_or next k 0 ≡ last_in key (chain_of (get_or key k 0)) k

-- one more than the index of each record's mate; 0: none
pub record Mated (s mate : List ℕ) (n : ℕ) : Type 0 where
  pub wide : 256 ≤ length mate
  pub mates : (k : ℕ) → k < n → get_or mate k 0 ≡ mates_of s n k
