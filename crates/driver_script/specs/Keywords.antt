-- The words that lines begin with: the project's own.
use Rattle.std.specs.Prelude.{ℕ, List, codes}
use Rattle.driver_script.specs.declared.keywords.Keyword.{Keyword}
use Rattle.driver_script.specs.declared.keywords.Keyword.TheVariants as keywords
use Rattle.driver_script.specs.declared.keywords.Until.{Until}
use Rattle.driver_script.specs.declared.keywords.Until.TheVariants as untils
use Rattle.driver_script.specs.declared.keywords.TheConstants.{KEYWORDS, UNTILS}

unfoldable pub keyword_name : Keyword → List ℕ
keyword_name keywords.Adapter = codes "adapter"
keyword_name keywords.Param = codes "param"
keyword_name keywords.Driver = codes "driver"
keyword_name keywords.Send = codes "send"
keyword_name keywords.Burst = codes "burst"
keyword_name keywords.Query = codes "query"
keyword_name keywords.Set = codes "set"
keyword_name keywords.Await = codes "await"
keyword_name keywords.Hold = codes "hold"
keyword_name keywords.Release = codes "release"

unfoldable pub keywords_all : List Keyword
keywords_all = KEYWORDS

unfoldable pub until_name : Until → List ℕ
until_name untils.Up = codes "up"
until_name untils.Sent = codes "sent"
until_name untils.Replies = codes "replies"
until_name untils.Frames = codes "frames"
until_name untils.All = codes "all"

unfoldable pub untils_all : List Until
untils_all = UNTILS
