mod HelpTests
mod WantTests
mod StormTests
